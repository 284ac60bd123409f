-- The whole law, for two kinds that keep their duties.
use Rattle.std.proofs.Common.{◌≡◌, ℕ, ◌+◌, ◌<◌, Bool, true, not, ◌&&◌, All, List, map, length, Some, slice_get, get_or, sym, refl, ap, ◌∙◌, subst}
use Rattle.std.proofs.lemmas.Bool.{and_left}
use Rattle.std.proofs.lemmas.List.Elements.{All-map, All-get_or}
use Rattle.std.proofs.lemmas.Option.{slice_get-get_or, unwrap_or-slice_get}
use Rattle.kinds.specs.Kinds.{Meaning, Behaviour, Duties}
use Rattle.tags.specs.Making.{JustMade}
use Rattle.tags.specs.Pump.{pump_acts}
use Rattle.tags.proofs.Moves.{made_good, made_off}
use Rattle.tray_core.specs.Hiding.{Which, front, back, accepts, place_accepts}
use Rattle.tray_core.specs.Rows.{Post}
use Rattle.tray_core.specs.Trays.{Model, present}
use Rattle.tray_core.proofs.HiddenPart.{hiding}
use Rattle.tray_core.proofs.Places.{Rowed, front_rowed, back_rowed}
use Rattle.handling.specs.Laws.{PumpRow, Loaded, PumpLaw, Law, past_end, place, pump, front_row, back_row}
use Rattle.handling.proofs.Keeping.{Holds, stays, kept}
use Rattle.handling.proofs.Unchecked.{in_run}

all_here : {S H : Type 0} (tags : List (Meaning S H)) → All (λ (p : Post S H). p.here ≡ true) (map present tags)
all_here tags = All-map (λ p. p.here ≡ true) present tags (λ k d below. refl)

module _ {SF HF SB HB : Type 0} (F : Behaviour SF HF) (B : Behaviour SB HB) (row : Model SF HF SB HB → PumpRow) (named : ℕ → Which)
    (number : ℕ → ℕ) (rowed : Rowed F B pump_acts row number) where
  -- a tag of a loaded tray is good, and off
  holds_made : (t : Model SF HF SB HB) → Loaded row t → (n : ℕ) → n < length (row t) → Holds F B row named number rowed n t
  holds_made t loaded n below =
      let this : get_or (row t) n past_end ≡ place row n t = sym (unwrap_or-slice_get (row t) n past_end) in
      let made : JustMade (pump row n t) = subst (λ (p : Post _ _). JustMade p.tag) this (All-get_or (λ p. JustMade p.tag) (row t) n past_end below loaded.made) in
      record {
        there = slice_get-get_or (row t) n past_end below ∙ ap Some this;
        good = made_good made.image made.draw _ made.from;
        lit = made_off made.image made.draw _ made.from ∙ sym (ap (λ (b : Bool). not b) (and_left t.field _ loaded.dark));
      }

  -- the law for a row of pump tags
  lawful_row : ((n : ℕ) (frame : List ℕ) (t : Model SF HF SB HB) → accepts F B (named n) frame t ≡ (t.field && place_accepts pump_acts frame (slice_get (row t) n))) → PumpLaw F B row named
  lawful_row accepting =
      record {
        stays = λ t loaded n below cs. stays F B row named number rowed n t (holds_made t loaded n below) cs;
        kept = λ t loaded n below cs more. kept F B row named number rowed n t (holds_made t loaded n below) cs more;
        unchecked = λ t n cs sent. in_run F B row named n (accepting n) t cs sent;
        loads = λ fs bs made. record { dark = refl; front = all_here fs; back = all_here bs; made = made };
      }

pub lawful : {SF HF SB HB : Type 0} {off_front : SF → Bool} {off_back : SB → Bool} (F : Behaviour SF HF) (B : Behaviour SB HB) → Duties off_front F → Duties off_back B → Law F B
lawful F B duties_f duties_b =
    record {
      hiding = hiding F B duties_f duties_b;
      in_front = lawful_row pump_acts B front_row front (λ n. n) (front_rowed pump_acts B) (λ n frame t. refl);
      behind = lawful_row F pump_acts back_row back (λ n. 32 + n) (back_rowed F pump_acts) (λ n frame t. refl);
    }
