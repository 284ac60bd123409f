-- What every run keeps of the pump tags of one row.
use Rattle.std.proofs.Common.{◌≡◌, ℕ, ◌+◌, ◌<◌, Bool, not, cond, List, [], ◌∷◌, ◌++◌, length, Some, None, Option, slice_get, unwrap_or, option_map, sym, refl, ap, ◌∙◌, subst}
use Rattle.std.proofs.lemmas.Bool.{and_left, and_right}
use Rattle.std.proofs.lemmas.Option.{slice_get_within}
use Rattle.typeb.specs.Hears as hears
use Rattle.tags.specs.Common.{Shown, is_off_tag}
use Rattle.kinds.specs.Kinds.{Behaviour}
use Rattle.tags.specs.Pump.{PumpMeaning, pump_acts}
use Rattle.tags.proofs.Moves.{Good, Moves, moves_serial, moves_trans}
use Rattle.tray_core.specs.Hiding.{Which}
use Rattle.tray_core.specs.Rows.{Post}
use Rattle.tray_core.specs.Runs.{Turn, turn, run}
use Rattle.tray_core.specs.Scripts.{Script, done, send, after_play}
use Rattle.tray_core.specs.Step.{Asks, Frame, Stock, refused_by, unless_refused}
use Rattle.tray_core.specs.Steps.{befalls, lit_by}
use Rattle.tray_core.specs.Stock.{stocktaking}
use Rattle.tray_core.specs.Trays.{Model, after_frame, sounds_of}
use Rattle.tray_core.proofs.Places.{Rowed, heard_at, done_at, field_done}
use Rattle.handling.specs.Laws.{PumpRow, Kept, past_end, place, pump, powered, brings, counts, is_count}
use Rattle.handling.proofs.CountFrames.{Plain, no_count}
use Rattle.handling.proofs.Mild.{Mild, mild_stock}
use Rattle.handling.proofs.Places.{Leads, befallen}
use Rattle.handling.proofs.Pumps.{still}

-- a run and more is more of a run
run_more : {SF HF SB HB : Type 0} (F : Behaviour SF HF) (B : Behaviour SB HB) (t : Model SF HF SB HB) (cs more : List Turn)
    → run F B t (cs ++ more) ≡ run F B (run F B t cs) more
run_more F B t [] more = refl
run_more F B t (c ∷ cs) more = run_more F B (turn F B c t).tray cs more

module _ {SF HF SB HB : Type 0} (F : Behaviour SF HF) (B : Behaviour SB HB) (row : Model SF HF SB HB → PumpRow) (named : ℕ → Which)
    (number : ℕ → ℕ) (rowed : Rowed F B pump_acts row number) (n : ℕ) where
  abbrev M : Type 0
  M = Model SF HF SB HB

  -- a good tag has the number, and is off exactly while it has no power
  pub record Holds (t : M) : Type 0 where
    pub there : slice_get (row t) n ≡ Some (place row n t)
    pub good : Good (pump row n t)
    pub lit : is_off_tag (pump row n t).shown ≡ not (powered row n t)

  -- a tray leads to another, with so many COUNTs for the tag
  record Goes (t u : M) (count : ℕ) : Type 0 where
    moves : Moves (pump row n t) (pump row n u) count
    holds : Holds u

  goes_same : (t : M) → Holds t → Goes t t 0
  goes_same t holds = record { moves = still (pump row n t) holds.good; holds = holds }

  goes_on : (t u v : M) (j k : ℕ) → Goes t u j → Goes u v k → Goes t v (j + k)
  goes_on t u v j k first second = record { moves = moves_trans _ _ _ _ _ first.moves second.moves; holds = second.holds }

  -- a tray whose place is what a call makes of it
  by_place : (t u : M) (count : ℕ) (q : Post Shown (List ℕ)) → slice_get (row u) n ≡ Some q → Leads (pump row n t) count u.field q.here q.tag → Goes t u count
  by_place t u count q is leads =
      let this : q ≡ place row n u = ap (λ (o : Option (Post Shown (List ℕ))). unwrap_or o past_end) (sym is) in
      let led : Leads (pump row n t) count u.field (place row n u).here (pump row n u) =
      subst (λ (p : Post Shown (List ℕ)). Leads (pump row n t) count u.field p.here p.tag) this leads in
      record { moves = led.moves; holds = record { there = is ∙ ap Some this; good = led.moves.good; lit = led.lit } }

  by_call : (c : Asks) (t u : M) → slice_get (row u) n ≡ option_map (befalls pump_acts c t.field (number n)) (slice_get (row t) n) → u.field ≡ lit_by c t.field
      → Holds t → Goes t u (brings None c (powered row n t) (pump row n t))
  by_call c t u is field holds =
      let count = brings None c (powered row n t) (pump row n t) in
      let q : Post Shown (List ℕ) = befalls pump_acts c t.field (number n) (place row n t) in
      by_place t u count q (is ∙ ap (option_map (befalls pump_acts c t.field (number n))) holds.there)
      (subst (λ (f : Bool). Leads (pump row n t) count f q.here q.tag) (sym field) (befallen (pump row n t) holds.good c t.field (number n) (place row n t).here holds.lit))

  -- a script that sends no data command
  heard : (frame : List ℕ) (t : M) → Holds t → Goes t (after_frame F B frame t) (brings None (Frame frame) (powered row n t) (pump row n t))
  heard frame t holds = by_call (Frame frame) t (after_frame F B frame t) (heard_at F B pump_acts row number rowed frame t n) (field_done F B t [] [] (Frame frame) (λ e. absurd cc)) holds

  uncounted : (frame : List ℕ) (power : Bool) (m : PumpMeaning) → Plain (hears.heard frame) → brings None (Frame frame) power m ≡ 0
  uncounted frame power m plain =
      ap (λ (b : Bool). cond b 1 0) (and_right power _ (and_left (is_count (hears.heard frame)) _ (no_count (hears.heard frame) plain)))

  plays : {A : Type 0} (script : Script A) → Mild script → (t : M) → Holds t → Goes t (after_play F B script t) 0
  plays (done a) mild t holds = goes_same t holds
  plays (send frame next) mild t holds =
      let first : Goes t (after_frame F B frame t) 0 = subst (Goes t (after_frame F B frame t)) (uncounted frame _ _ mild.0) (heard frame t holds) in
      goes_on t _ _ 0 0 first (plays (next (sounds_of F B frame t)) (mild.1 (sounds_of F B frame t)) (after_frame F B frame t) first.holds)

  -- a call, and a run
  called : (o : Option ℕ) (c : Asks) (t : M) (buffer : List ℕ) (list : List (List ℕ)) → refused_by c t buffer list ≡ o → Holds t
      → Goes t (unless_refused F B o c t buffer list).tray (brings o c (powered row n t) (pump row n t))
  called (Some why) c t buffer list is holds = goes_same t holds
  called None Stock t buffer list is holds = plays stocktaking mild_stock t holds
  called None c t buffer list is holds =
      by_call c t _ (done_at F B pump_acts row number rowed c t buffer list is (λ e. absurd cc) n) (field_done F B t buffer list c (λ e. absurd cc)) holds

  runs : (t : M) (cs : List Turn) → Holds t → Goes t (run F B t cs) (counts F B row named n t cs)
  runs t [] holds = goes_same t holds
  runs t (c ∷ cs) holds =
      let first = called (refused_by c.call t c.buffer c.list) c.call t c.buffer c.list refl holds in
      goes_on t (turn F B c t).tray _ _ _ first (runs (turn F B c t).tray cs first.holds)

  -- what is kept
  module _ (t : M) (holds : Holds t) (cs : List Turn) where
    pub stays : n < length (row (run F B t cs))
    stays = slice_get_within _ n _ (runs t cs holds).holds.there

    pub kept : (more : List Turn) → Kept (pump row n t) (pump row n (run F B t cs)) (pump row n (run F B t (cs ++ more))) (counts F B row named n t cs) (powered row n (run F B t cs))
    kept more =
        let first = runs t cs holds in
        let second = runs (run F B t cs) more first.holds in
        subst (λ (u : M). Kept (pump row n t) (pump row n (run F B t cs)) (pump row n u) (counts F B row named n t cs) (powered row n (run F B t cs))) (sym (run_more F B t cs more))
        (record {
          locks = second.moves.firmer.locks;
          pages = second.moves.pages;
          serial = moves_serial _ _ _ first.moves;
          sum = first.moves.sum;
          most = first.moves.good.most;
          off = first.holds.lit;
        })
