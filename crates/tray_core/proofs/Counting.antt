-- What slots and rounds add to the count of a stock.
use Rattle.std.proofs.Common.{◌≡◌, ℕ, suc, ◌+◌, Bool, true, false, List, [], ◌∷◌, ◌++◌, length, refl, arith}
use Rattle.std.proofs.lemmas.List.{length-append}
use Rattle.std.proofs.lemmas.List.Elements.{All-nil, All-cons}
use Rattle.kinds.specs.Kinds.{Behaviour}
use Rattle.tray_core.specs.Course.{Slot, Silent, Clashed, Unsound, Answered, AllSilent, TakesRounds, quiet_round, last_round, round, sent_in, clashes_in, last_clashes, serials_in}
use Rattle.tray_core.specs.Stock.{Tally, sent, clashed, loud, noted, joins}
use Rattle.tray_core.specs.Trays.{Model}
use Rattle.tray_core.proofs.Listing.{noted_all}

-- the count after a slot
abbrev pub after_slot : Slot → Tally → Tally
after_slot Silent c = sent c
after_slot Clashed c = clashed (sent c)
after_slot Unsound c = loud (sent c)
after_slot (Answered serial) c = noted serial (sent (loud (sent c)))

abbrev pub after_slots : List Slot → Tally → Tally
after_slots [] c = c
after_slots (one ∷ slots) c = after_slots slots (after_slot one c)

first_silent : (one : Slot) (slots : List Slot) → AllSilent (one ∷ slots) → one ≡ Silent
first_silent one slots all = all 0 one (omega arith)

others_silent : (one : Slot) (slots : List Slot) → AllSilent (one ∷ slots) → AllSilent slots
others_silent one slots all = λ k d inside. all (suc k) d (omega arith)

pub record Counts (frames : List (List ℕ)) (slots : List Slot) (c d : Tally) : Type 0 where
  pub sent_more : d.frames ≡ c.frames + length (sent_in frames slots)
  pub same_rounds : d.rounds ≡ c.rounds
  pub clashed_more : d.clashes ≡ c.clashes + clashes_in slots
  pub noted_more : d.serials ≡ noted_all (serials_in slots) c.serials
  pub still_loud : c.silent ≡ false → d.silent ≡ false
  pub quiet : d.silent ≡ true → AllSilent slots
  pub noisy : c.silent ≡ true → d.silent ≡ false → AllSilent slots → ⊥

pub no_slots : (frames : List (List ℕ)) (c : Tally) → frames ≡ [] → Counts frames [] c c
no_slots frames c none =
    record {
      sent_more = rw none (omega arith);
      same_rounds = refl;
      clashed_more = omega arith;
      noted_more = refl;
      still_loud = λ off. off;
      quiet = λ on. All-nil (λ slot. slot ≡ Silent);
      noisy = λ on off all. cc;
    }

pub one_more_slot : (frame : List ℕ) (frames : List (List ℕ)) (one : Slot) (slots : List Slot) (c d : Tally) → Counts frames slots (after_slot one c) d → Counts (frame ∷ frames) (one ∷ slots) c d
one_more_slot frame frames Silent slots c d k =
    record {
      sent_more = omega arith;
      same_rounds = k.same_rounds;
      clashed_more = k.clashed_more;
      noted_more = k.noted_more;
      still_loud = k.still_loud;
      quiet = λ on. All-cons (λ slot. slot ≡ Silent) Silent slots refl (k.quiet on);
      noisy = λ on off all. k.noisy on off (others_silent Silent slots all);
    }
one_more_slot frame frames Clashed slots c d k =
    let off = k.still_loud refl in
    record {
      sent_more = omega arith;
      same_rounds = k.same_rounds;
      clashed_more = omega arith;
      noted_more = k.noted_more;
      still_loud = λ was. off;
      quiet = λ on. absurd cc;
      noisy = λ on now all. let first = first_silent Clashed slots all in cc;
    }
one_more_slot frame frames Unsound slots c d k =
    let off = k.still_loud refl in
    record {
      sent_more = omega arith;
      same_rounds = k.same_rounds;
      clashed_more = k.clashed_more;
      noted_more = k.noted_more;
      still_loud = λ was. off;
      quiet = λ on. absurd cc;
      noisy = λ on now all. let first = first_silent Unsound slots all in cc;
    }
one_more_slot frame frames (Answered serial) slots c d k =
    let off = k.still_loud refl in
    record {
      sent_more = omega arith;
      same_rounds = k.same_rounds;
      clashed_more = k.clashed_more;
      noted_more = k.noted_more;
      still_loud = λ was. off;
      quiet = λ on. absurd cc;
      noisy = λ on now all. let first = first_silent (Answered serial) slots all in cc;
    }

-- rounds one after another
pub both_sent : (xs ys : List (List ℕ)) (a b c : ℕ) → b ≡ a + length xs → c ≡ b + length ys → c ≡ a + length (xs ++ ys)
both_sent xs ys a b c first second = simp length-append (omega arith)

pub both_noted : (xs ys zs : List (List ℕ)) → noted_all (xs ++ ys) zs ≡ noted_all ys (noted_all xs zs)
both_noted [] ys zs = refl
both_noted (x ∷ xs) ys zs = both_noted xs ys (joins x zs)

pub later_clashes : {SF HF SB HB : Type 0} {F : Behaviour SF HF} {B : Behaviour SB HB} {wakes : Bool} {left : ℕ} {t u : Model SF HF SB HB} {rounds : List (List Slot)} (before : List Slot)
    → TakesRounds F B wakes left t rounds u → last_clashes (before ∷ rounds) ≡ last_clashes rounds
later_clashes before (quiet_round one quiet) = refl
later_clashes before (last_round one noise) = refl
later_clashes before (round one noise more) = refl
