-- No caller can tell two trays apart that differ only in what one closed tag hides.
use Rattle.std.proofs.Common.{◌≡◌, ℕ, ◌-◌, Bool, true, false, cond, ltb, List, [], ◌∷◌, ◌++◌, length, drop, Some, None, Ok, Option, refl, ap, subst, ap₂}
use Rattle.kinds.specs.Kinds.{Behaviour, Duties}
use Rattle.tray_core.specs.Hiding.{Which, front, back, accepts, NoneInScript, NoneInCall, NoCheck, Apart, Hiding}
use Rattle.tray_core.specs.Rows.{Post, change_at, placed, lifted}
use Rattle.tray_core.specs.Runs.{Turn, Seen, turn, run, seen}
use Rattle.tray_core.specs.Scripts.{Script, done, send, played, after_play}
use Rattle.tray_core.specs.Sounds.{Sounds, meet}
use Rattle.tray_core.specs.Step.{Asks, On, Off, Place, Lift, Frame, Stock, Outcome, own_question, refused_by, heard_answer, heard_buffer, figures, does, unless_refused, step}
use Rattle.tray_core.specs.Stock.{Tally, stocktaking}
use Rattle.tray_core.specs.Trays.{Model, names, turned_on, turned_off, after_frame, sounds_of}
use Rattle.tray_core.proofs.Near.{NearRow, near_of_same, same_of_near, near_of_apart, apart_of_near, same_length, Keeps, near_changed, accepts_in, keeps_placed, keeps_lifted, near_gains, near_loses, near_hears}

-- where a tag stands in each row
abbrev in_front_row : Which → Option ℕ
in_front_row (front n) = Some n
in_front_row (back n) = None

abbrev in_back_row : Which → Option ℕ
in_back_row (front n) = None
in_back_row (back n) = Some n

module _ {SF HF SB HB : Type 0} where
  -- two trays that differ at most in one tag, which is closed in both
  data NearTray (w : Which) : Model SF HF SB HB → Model SF HF SB HB → Type 0 where
    near_tray : (field : Bool) {fs gs : List (Post SF HF)} {bs cs : List (Post SB HB)} → NearRow (in_front_row w) fs gs → NearRow (in_back_row w) bs cs
        → NearTray w (record { field = field; front = fs; back = bs }) (record { field = field; front = gs; back = cs })

  near_by_parts : (w : Which) (t u : Model SF HF SB HB) → t.field ≡ u.field → NearRow (in_front_row w) t.front u.front → NearRow (in_back_row w) t.back u.back → NearTray w t u
  near_by_parts w t u fields fronts backs =
      subst (λ (field : Bool). NearTray w t (record { field = field; front = u.front; back = u.back })) fields (near_tray t.field fronts backs)

  tray_of_apart : (w : Which) (t u : Model SF HF SB HB) → Apart w t u → NearTray w t u
  tray_of_apart (front n) t u apart = near_by_parts (front n) t u apart.0 (near_of_apart n t.front u.front apart.1) (near_of_same apart.2)
  tray_of_apart (back n) t u apart = near_by_parts (back n) t u apart.0 (near_of_same apart.1) (near_of_apart n t.back u.back apart.2)

  apart_of_tray : (w : Which) {t u : Model SF HF SB HB} → NearTray w t u → Apart w t u
  apart_of_tray (front n) (near_tray field fronts backs) = (refl, apart_of_near fronts, same_of_near backs)
  apart_of_tray (back n) (near_tray field fronts backs) = (refl, same_of_near fronts, apart_of_near backs)

  -- near trays refuse the same calls
  same_naming : {w : Which} {t u : Model SF HF SB HB} (n : ℕ) → NearTray w t u → ◌≡◌ {A = Option ℕ} (cond (names n t) None (Some 5)) (cond (names n u) None (Some 5))
  same_naming n (near_tray field fronts backs) = cc (same_length fronts, same_length backs)

  same_question : {w : Which} {t u : Model SF HF SB HB} (c : Asks) (buffer : List ℕ) (list : List (List ℕ)) → NearTray w t u → own_question c t buffer list ≡ own_question c u buffer list
  same_question On buffer list near = refl
  same_question Off buffer list near = refl
  same_question (Place n) buffer list near = same_naming n near
  same_question (Lift n) buffer list near = same_naming n near
  same_question (Frame frame) buffer list near = refl
  same_question Stock buffer list near = refl

  same_refusal : {w : Which} {t u : Model SF HF SB HB} (c : Asks) (buffer : List ℕ) (list : List (List ℕ)) → NearTray w t u → refused_by c t buffer list ≡ refused_by c u buffer list
  same_refusal {w} c buffer list (near_tray field fronts backs) =
      cc (same_length fronts, same_length backs, same_question {w = w} c buffer list (near_tray field fronts backs))

  -- a change of one tag, in front or behind, keeps trays near
  near_chosen : {w : Which} {t u x y : Model SF HF SB HB} (a b : Bool) → a ≡ b → NearTray w t u → NearTray w x y → NearTray w (cond a t x) (cond b u y)
  near_chosen {w} {t} {u} {x} {y} a b e near other =
      subst (λ (z : Bool). NearTray w (cond a t x) (cond z u y)) e
      (elim a as (λ z. NearTray w (cond z t x) (cond z u y)) [ true ↦ near | false ↦ other ])

  module _ (in_front : Bool → Post SF HF → Post SF HF) (in_back : Bool → Post SB HB → Post SB HB) (n : ℕ) where
    abbrev with_changed : Model SF HF SB HB → Model SF HF SB HB
    with_changed t =
        cond (ltb n (length t.front))
        (record { field = t.field; front = change_at n (in_front t.field) t.front; back = t.back })
        (record { field = t.field; front = t.front; back = change_at (n - 32) (in_back t.field) t.back })

    near_with_changed : {w : Which} {t u : Model SF HF SB HB} → ((field : Bool) → Keeps (in_front field)) → ((field : Bool) → Keeps (in_back field)) → NearTray w t u → NearTray w (with_changed t) (with_changed u)
    near_with_changed keeps_front keeps_back (near_tray field {fs = fs} {gs = gs} fronts backs) =
        near_chosen (ltb n (length fs)) (ltb n (length gs)) (ap (ltb n) (same_length fronts))
        (near_tray field (near_changed (in_front field) (keeps_front field) n fronts) backs)
        (near_tray field fronts (near_changed (in_back field) (keeps_back field) (n - 32) backs))

  -- equal to the caller, and near still
  abbrev Agree : {A : Type 0} → Which → A → A → Model SF HF SB HB → Model SF HF SB HB → Type 0
  Agree w x y t u = (x ≡ y) × NearTray w t u

  abbrev seen_of : Outcome (Model SF HF SB HB) → Seen
  seen_of o = record { answer = o.answer; buffer = o.buffer; list = o.list }

  abbrev SameOutcome : Which → Outcome (Model SF HF SB HB) → Outcome (Model SF HF SB HB) → Type 0
  SameOutcome w o p = Agree w (seen_of o) (seen_of p) o.tray p.tray

-- two kinds that keep their duties, in trays where one tag accepts no check
module _ {SF HF SB HB : Type 0} {off_f : SF → Bool} {off_b : SB → Bool} (F : Behaviour SF HF) (B : Behaviour SB HB) (duties_f : Duties off_f F) (duties_b : Duties off_b B) where
  near_on : {w : Which} {t u : Model SF HF SB HB} → NearTray w t u → NearTray w (turned_on F B t) (turned_on F B u)
  near_on (near_tray true fronts backs) = near_tray true fronts backs
  near_on (near_tray false fronts backs) = near_tray true (near_gains F duties_f fronts) (near_gains B duties_b backs)

  near_off : {w : Which} {t u : Model SF HF SB HB} → NearTray w t u → NearTray w (turned_off F B t) (turned_off F B u)
  near_off (near_tray true fronts backs) = near_tray false (near_loses F duties_f fronts) (near_loses B duties_b backs)
  near_off (near_tray false fronts backs) = near_tray false fronts backs

  -- a tag that accepts no check on a tray accepts none in its row
  none_in_rows : (w : Which) (frame : List ℕ) (fs : List (Post SF HF)) (bs : List (Post SB HB)) → accepts F B w frame (record { field = true; front = fs; back = bs }) ≡ false
      → (accepts_in F (in_front_row w) frame fs ≡ false) × (accepts_in B (in_back_row w) frame bs ≡ false)
  none_in_rows (front n) frame fs bs none = (none, refl)
  none_in_rows (back n) frame fs bs none = (refl, none)

  -- a frame is answered the same
  near_frame : (w : Which) (frame : List ℕ) {t u : Model SF HF SB HB} → accepts F B w frame t ≡ false → accepts F B w frame u ≡ false → NearTray w t u
      → Agree w (sounds_of F B frame t) (sounds_of F B frame u) (after_frame F B frame t) (after_frame F B frame u)
  near_frame w frame a b (near_tray true {fs} {gs} {bs} {cs} fronts backs) =
      let (front_a, back_a) = none_in_rows w frame fs bs a in
      let (front_b, back_b) = none_in_rows w frame gs cs b in
      let (sounds_f, after_f) = near_hears F duties_f frame fronts front_a front_b in
      let (sounds_b, after_b) = near_hears B duties_b frame backs back_a back_b in
      (ap₂ meet sounds_f sounds_b, near_tray true after_f after_b)
  near_frame w frame a b (near_tray false fronts backs) = (refl, near_tray false fronts backs)

  -- a script ends the same
  near_script : {A : Type 0} (w : Which) (s : Script A) (t u : Model SF HF SB HB) → NoneInScript F B w s t → NoneInScript F B w s u → NearTray w t u
      → Agree w (played F B s t) (played F B s u) (after_play F B s t) (after_play F B s u)
  near_script w (done a) t u none_t none_u near = (refl, near)
  near_script w (send frame next) t u none_t none_u near =
      let (heard, nearer) = near_frame w frame none_t.0 none_u.0 near in
      let s = next (sounds_of F B frame t) in
      let t' = after_frame F B frame t in
      let u' = after_frame F B frame u in
      subst
      (λ (x : Sounds). NoneInScript F B w (next x) u' → Agree w (played F B s t') (played F B (next x) u') (after_play F B s t') (after_play F B (next x) u'))
      heard
      (λ none. near_script w (next (sounds_of F B frame t)) t' u' none_t.1 none nearer)
      none_u.1

  -- a call shows the same
  module _ (w : Which) (t u : Model SF HF SB HB) (near : NearTray w t u) (buffer : List ℕ) (list : List (List ℕ)) where
    near_does : (c : Asks) → NoneInCall F B w None c t → NoneInCall F B w None c u → SameOutcome w (does F B c t buffer list) (does F B c u buffer list)
    near_does On none_t none_u = (refl, near_on near)
    near_does Off none_t none_u = (refl, near_off near)
    near_does (Place n) none_t none_u = (refl, near_with_changed (placed F) (placed B) n (keeps_placed F duties_f) (keeps_placed B duties_b) near)
    near_does (Lift n) none_t none_u = (refl, near_with_changed (lifted F) (lifted B) n (keeps_lifted F duties_f) (keeps_lifted B duties_b) near)
    near_does (Frame frame) none_t none_u =
        let (heard, nearer) = near_frame w frame none_t none_u near in
        (ap (λ (x : Sounds). record { answer = Ok (heard_answer x); buffer = heard_buffer x buffer; list = list }) heard, nearer)
    near_does Stock none_t none_u =
        let (counted, nearer) = near_script w stocktaking t u none_t none_u near in
        (ap (λ (x : Tally). record { answer = Ok (figures x); buffer = buffer; list = x.serials ++ drop (length x.serials) list }) counted, nearer)

    near_unless : (o : Option ℕ) (c : Asks) → NoneInCall F B w o c t → NoneInCall F B w o c u → SameOutcome w (unless_refused F B o c t buffer list) (unless_refused F B o c u buffer list)
    near_unless (Some why) c none_t none_u = (refl, near)
    near_unless None c none_t none_u = near_does c none_t none_u

    near_step : (c : Asks) → NoneInCall F B w (refused_by c t buffer list) c t → NoneInCall F B w (refused_by c u buffer list) c u → SameOutcome w (step F B c t buffer list) (step F B c u buffer list)
    near_step c none_t =
        subst
        (λ (o : Option ℕ). NoneInCall F B w o c u → SameOutcome w (step F B c t buffer list) (unless_refused F B o c u buffer list))
        (same_refusal c buffer list near)
        (near_unless (refused_by c t buffer list) c none_t)

  -- a run shows the same
  near_run : (w : Which) (t u : Model SF HF SB HB) (cs : List Turn) → NearTray w t u → NoCheck F B w t cs → NoCheck F B w u cs
      → Agree w (seen F B t cs) (seen F B u cs) (run F B t cs) (run F B u cs)
  near_run w t u [] near none_t none_u = (refl, near)
  near_run w t u (c ∷ cs) near none_t none_u =
      let (now, nearer) = near_step w t u near c.buffer c.list c.call none_t.0 none_u.0 in
      let (after, nearest) = near_run w (turn F B c t).tray (turn F B c u).tray cs nearer none_t.1 none_u.1 in
      (ap₂ ◌∷◌ now after, nearest)

  pub hiding : Hiding F B
  hiding w t u cs apart none_t none_u =
      let (shown, near) = near_run w t u cs (tray_of_apart w t u apart) none_t none_u in
      (shown, apart_of_tray w near)
