-- One place of a row of pump tags: whatever a call makes of it, the tag's locks, serial number and count are kept,
-- and the tag is off exactly while it has no power.
use Rattle.std.proofs.Common.{◌≡◌, ℕ, Bool, true, false, cond, not, ◌&&◌, ◌||◌, eqb, List, None, refl, ◌∙◌}
use Rattle.tags.specs.Common.{is_off_tag}
use Rattle.tags.specs.Pump.{PumpMeaning, pump_acts}
use Rattle.tags.proofs.LinkStates.{has_power}
use Rattle.tags.proofs.Moves.{Good, Moves}
use Rattle.tags.proofs.Staying.{keeps_power}
use Rattle.tray_core.specs.Step.{Asks, On, Off, Place, Lift, Frame, Stock}
use Rattle.tray_core.specs.Steps.{befalls, lit_by}
use Rattle.handling.specs.Laws.{brings}
use Rattle.handling.proofs.Pumps.{still, gains_moves, loses_moves, hears_moves}

-- a tag by so many COUNTs, and off exactly while it has no power
pub record Leads (m : PumpMeaning) (count : ℕ) (field here : Bool) (next : PumpMeaning) : Type 0 where
  pub moves : Moves m next count
  pub lit : is_off_tag next.shown ≡ not (field && here)

module _ (m : PumpMeaning) (good : Good m) where
  -- the tag stays as it was, gains power or loses it
  same : (field here : Bool) → is_off_tag m.shown ≡ not (field && here) → Leads m 0 field here m
  same field here lit = record { moves = still m good; lit = lit }

  gains : Leads m 0 true true (pump_acts.gains m)
  gains = record { moves = gains_moves m good; lit = has_power m.shown.link.state }

  loses : (field here : Bool) → true ≡ not (field && here) → Leads m 0 field here (pump_acts.loses m)
  loses field here dark = record { moves = loses_moves m good; lit = dark }

  -- by each call
  on_leads : (field here : Bool) → is_off_tag m.shown ≡ not (field && here) → Leads m 0 true here (cond (here && not field) (pump_acts.gains m) m)
  on_leads true true lit = same true true lit
  on_leads true false lit = same true false lit
  on_leads false true lit = gains
  on_leads false false lit = same true false lit

  off_leads : (field here : Bool) → is_off_tag m.shown ≡ not (field && here) → Leads m 0 false here (cond (here && field) (pump_acts.loses m) m)
  off_leads true true lit = loses false true refl
  off_leads true false lit = same false false lit
  off_leads false true lit = same false true lit
  off_leads false false lit = same false false lit

  placed_leads : (this field here : Bool) → is_off_tag m.shown ≡ not (field && here)
      → Leads m 0 field (here || this) (cond (this && (field && not here)) (pump_acts.gains m) m)
  placed_leads true true true lit = same true true lit
  placed_leads true true false lit = gains
  placed_leads true false true lit = same false true lit
  placed_leads true false false lit = same false true lit
  placed_leads false field true lit = same field true lit
  placed_leads false field false lit = same field false lit

  lifted_leads : (this field here : Bool) → is_off_tag m.shown ≡ not (field && here)
      → Leads m 0 field (here && not this) (cond (this && (field && here)) (pump_acts.loses m) m)
  lifted_leads true true true lit = loses true false refl
  lifted_leads true true false lit = same true false lit
  lifted_leads true false true lit = same false false lit
  lifted_leads true false false lit = same false false lit
  lifted_leads false field true lit = same field true lit
  lifted_leads false field false lit = same field false lit

  heard_leads : (frame : List ℕ) (field here : Bool) → is_off_tag m.shown ≡ not (field && here)
      → Leads m (brings None (Frame frame) (field && here) m) field here (cond (here && field) (pump_acts.hears frame m).after m)
  heard_leads frame true true lit = record { moves = hears_moves m good frame; lit = keeps_power frame m ∙ lit }
  heard_leads frame true false lit = same true false lit
  heard_leads frame false true lit = same false true lit
  heard_leads frame false false lit = same false false lit

  pub befallen : (c : Asks) (field : Bool) (n : ℕ) (here : Bool) → is_off_tag m.shown ≡ not (field && here)
      → Leads m (brings None c (field && here) m) (lit_by c field) (befalls pump_acts c field n (record { here = here; tag = m })).here
      (befalls pump_acts c field n (record { here = here; tag = m })).tag
  befallen On field n here lit = on_leads field here lit
  befallen Off field n here lit = off_leads field here lit
  befallen (Place j) field n here lit = placed_leads (eqb j n) field here lit
  befallen (Lift j) field n here lit = lifted_leads (eqb j n) field here lit
  befallen (Frame frame) field n here lit = heard_leads frame field here lit
  befallen Stock field n here lit = same field here lit
