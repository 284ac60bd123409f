-- The laws of one call: what refuses it, what is heard, and what it makes of every tag.
use Rattle.std.proofs.Common.{◌≡◌, ℕ, suc, ◌+◌, ◌-◌, ◌≤◌, inl, inr, ⊎_elim, Bool, true, false, cond, leb, List, [], ◌∷◌, length, Some, None, Ok, Err, Option, Result, slice_get, sym, refl, ap, subst, ◌∙◌, arith}
use Rattle.std.proofs.lemmas.Bool.{and_parts, le-leb, leb-true, lt-leb, or_cases, or_left, or_right}
use Rattle.kinds.specs.Kinds.{Behaviour}
use Rattle.tray_core.specs.declared.calls.Answer.{Answer}
use Rattle.tray_core.specs.Course.{Stocktakes}
use Rattle.tray_core.specs.Sounds.{Sounds, count_replies}
use Rattle.tray_core.specs.Step.{Asks, On, Off, Place, Lift, Frame, Stock, Outcome, heard_answer, heard_buffer, own_question, refused_by, unless_refused, step}
use Rattle.tray_core.specs.Replies.{replies}
use Rattle.tray_core.specs.Steps.{Steps, Fit, Named}
use Rattle.tray_core.specs.Trays.{Model, rows_fit, in_front, in_back, names, sounds_of}
use Rattle.tray_core.proofs.Places.{front_rowed, back_rowed, done_at, field_done}
use Rattle.tray_core.proofs.Replied.{sounds_are}
use Rattle.tray_core.proofs.Stocktaking.{stock_taken}

is_false : (x : Bool) → (x ≡ true → ⊥) → x ≡ false
is_false true never = absurd (never refl)
is_false false never = refl

module _ {SF HF SB HB : Type 0} (F : Behaviour SF HF) (B : Behaviour SB HB) (t : Model SF HF SB HB) (buffer : List ℕ) (list : List (List ℕ)) where
  abbrev M : Type 0
  M = Model SF HF SB HB

  abbrev by : Option ℕ → Asks → Outcome M
  by o c = unless_refused F B o c t buffer list

  -- refused, or not
  left_alone : (o : Option ℕ) (c : Asks) (why : ℕ) → (by o c).answer ≡ Err why → by o c ≡ record { answer = Err why; tray = t; buffer = buffer; list = list }
  left_alone (Some w) c why e = ap (λ (r : Result Answer ℕ). record { answer = r; tray = t; buffer = buffer; list = list }) e
  left_alone None On why e = absurd cc
  left_alone None Off why e = absurd cc
  left_alone None (Place n) why e = absurd cc
  left_alone None (Lift n) why e = absurd cc
  left_alone None (Frame frame) why e = absurd cc
  left_alone None Stock why e = absurd cc

  no_refusal : (o : Option ℕ) (c : Asks) (a : Answer) → (by o c).answer ≡ Ok a → o ≡ None
  no_refusal (Some w) c a e = absurd cc
  no_refusal None c a e = refl

  -- the questions
  fits : Fit F B t buffer list → rows_fit t ≡ true
  fits fit = simp (le-leb (length t.front) 32 fit.0, le-leb (length t.back) 32 fit.1) refl

  unfit : (Fit F B t buffer list → ⊥) → rows_fit t ≡ false
  unfit long = is_false (rows_fit t) (λ e. let both = and_parts _ _ e in long (leb-true _ 32 both.0, leb-true _ 32 both.1))

  asked_own : Fit F B t buffer list → (c : Asks) (o : Option ℕ) → own_question c t buffer list ≡ o → step F B c t buffer list ≡ by o c
  asked_own fit c o own =
      ap (λ (x : Bool). by (cond x (own_question c t buffer list) (Some 4)) c) (fits fit) ∙ ap (λ (x : Option ℕ). by x c) own

  fit_is : rows_fit t ≡ true → Fit F B t buffer list
  fit_is e =
      let both = and_parts (leb (length t.front) 32) (leb (length t.back) 32) e in
      (leb-true (length t.front) 32 both.0, leb-true (length t.back) 32 both.1)

  is_named : (n : ℕ) → Named F B t buffer list n → names n t ≡ true
  is_named n (inl low) = or_left (in_front n t) (in_back n t) (le-leb (suc n) (length t.front) low)
  is_named n (inr back) =
      let low = back.0 in
      let high = back.1 in
      or_right (in_front n t) (in_back n t) (simp (le-leb 32 n low, le-leb (suc (n - 32)) (length t.back) (omega arith)) refl)

  named_is : (n : ℕ) → names n t ≡ true → Named F B t buffer list n
  named_is n e =
      ⊎_elim
      (λ (x : in_front n t ≡ true). inl (leb-true (suc n) (length t.front) x))
      (λ (x : in_back n t ≡ true).
      let both = and_parts (leb 32 n) (leb (suc (n - 32)) (length t.back)) x in
      let low = leb-true 32 n both.0 in
      let high = leb-true (suc (n - 32)) (length t.back) both.1 in
      inr (low, omega arith))
      (or_cases (in_front n t) (in_back n t) e)

  -- only Frame writes into the buffer, and only Stock into the list
  buffer_by : (o : Option ℕ) (c : Asks) → ((frame : List ℕ) → c ≡ Frame frame → ⊥) → (by o c).buffer ≡ buffer
  buffer_by (Some why) c other = refl
  buffer_by None On other = refl
  buffer_by None Off other = refl
  buffer_by None (Place k) other = refl
  buffer_by None (Lift k) other = refl
  buffer_by None (Frame frame) other = absurd (other frame refl)
  buffer_by None Stock other = refl

  list_by : (o : Option ℕ) (c : Asks) → (c ≡ Stock → ⊥) → (by o c).list ≡ list
  list_by (Some why) c other = refl
  list_by None On other = refl
  list_by None Off other = refl
  list_by None (Place k) other = refl
  list_by None (Lift k) other = refl
  list_by None (Frame frame) other = refl
  list_by None Stock other = absurd (other refl)

  -- answer and buffer of Frame, by the replies
  module _ (fit : Fit F B t buffer list) (room : 16 ≤ length buffer) (frame : List ℕ) (all : List (List ℕ)) (are : replies F B t frame ≡ all) where
    is : sounds_of F B frame t ≡ count_replies all
    is = sounds_are F B t frame all are

    aired : step F B (Frame frame) t buffer list ≡ by None (Frame frame)
    aired = asked_own fit (Frame frame) None (ap (λ (x : Bool). cond {A = Option ℕ} x None (Some 6)) (le-leb 16 (length buffer) room))

    answered : ((step F B (Frame frame) t buffer list).answer ≡ Ok (heard_answer (count_replies all))) × ((step F B (Frame frame) t buffer list).buffer ≡ heard_buffer (count_replies all) buffer)
    answered = (
      ap (λ (o : Outcome M). o.answer) aired ∙ ap (λ (s : Sounds). Ok (heard_answer s)) is,
      ap (λ (o : Outcome M). o.buffer) aired ∙ ap (λ (s : Sounds). heard_buffer s buffer) is,
    )

  answer_by : (c : Asks) (fit : Fit F B t buffer list) (o : Option ℕ) → own_question c t buffer list ≡ o → (step F B c t buffer list).answer ≡ (by o c).answer
  answer_by c fit o own = ap (λ (x : Outcome M). x.answer) (asked_own fit c o own)

  unnamed : Fit F B t buffer list → (n : ℕ) → (Named F B t buffer list n → ⊥) → cond {A = Option ℕ} (names n t) None (Some 5) ≡ Some 5
  unnamed fit n none = ap (λ (x : Bool). cond {A = Option ℕ} x None (Some 5)) (is_false (names n t) (λ e. none (named_is n e)))

  named : (n : ℕ) → Named F B t buffer list n → cond {A = Option ℕ} (names n t) None (Some 5) ≡ None
  named n one = ap (λ (x : Bool). cond {A = Option ℕ} x None (Some 5)) (is_named n one)

  pub steps : Steps F B t buffer list
  steps =
      record {
        refused = λ c why. left_alone (refused_by c t buffer list) c why;
        rows = λ c long. ap (λ (x : Bool). (by (cond x (own_question c t buffer list) (Some 4)) c).answer) (unfit long);
        unnamed = λ fit n none. (answer_by (Place n) fit (Some 5) (unnamed fit n none), answer_by (Lift n) fit (Some 5) (unnamed fit n none));
        named = λ fit n one. (answer_by (Place n) fit None (named n one), answer_by (Lift n) fit None (named n one));
        lit = λ fit. (answer_by On fit None refl, answer_by Off fit None refl);
        short_buffer = λ fit frame short. answer_by (Frame frame) fit (Some 6) (ap (λ (x : Bool). cond {A = Option ℕ} x None (Some 6)) (lt-leb 16 (length buffer) short));
        short_list = λ fit short. answer_by Stock fit (Some 7) (ap (λ (x : Bool). cond {A = Option ℕ} x None (Some 7)) (lt-leb 128 (length list) short));
        silence = λ fit room frame are. answered fit room frame [] are;
        reply = λ fit room frame a are. answered fit room frame (a ∷ []) are;
        clash = λ fit room frame a b more are. answered fit room frame (a ∷ (b ∷ more)) are;
        field = λ c a other taken.
            let none = no_refusal (refused_by c t buffer list) c a taken in
            ap (λ (o : Option ℕ). (by o c).tray.field) none ∙ field_done F B t buffer list c other;
        front = λ c a other taken i.
            let none = no_refusal (refused_by c t buffer list) c a taken in
            ap (λ (o : Option ℕ). slice_get (by o c).tray.front i) none ∙ done_at F B F (λ m. m.front) (λ n. n) (front_rowed F B) c t buffer list none other i;
        back = λ c a other taken i.
            let none = no_refusal (refused_by c t buffer list) c a taken in
            ap (λ (o : Option ℕ). slice_get (by o c).tray.back i) none ∙ done_at F B B (λ m. m.back) (λ n. 32 + n) (back_rowed F B) c t buffer list none other i;
        buffer_kept = λ c. buffer_by (refused_by c t buffer list) c;
        list_kept = λ c. list_by (refused_by c t buffer list) c;
        stock = λ fit room.
            subst (Stocktakes F B t list)
            (sym (asked_own fit Stock None (ap (λ (x : Bool). cond {A = Option ℕ} x None (Some 7)) (le-leb 128 (length list) room))))
            (stock_taken F B t buffer list fit);
      }
