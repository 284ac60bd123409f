-- In a run that sends no CHECK PASSWORD no pump tag accepts a check.
use Rattle.std.proofs.Common.{◌≡◌, ℕ, false, ◌&&◌, List, [], ◌∷◌, Some, None, Option, slice_get, refl, ◌∙◌}
use Rattle.std.proofs.lemmas.Bool.{and_left, and_right}
use Rattle.std.proofs.lemmas.List.Elements.{All-head, All-tail}
use Rattle.typeb.specs.Hears.{heard}
use Rattle.tags.specs.Common.{Shown}
use Rattle.tags.specs.Conduct.{is_check}
use Rattle.kinds.specs.Kinds.{Behaviour}
use Rattle.tags.specs.Pump.{PumpMeaning, pump_acts}
use Rattle.tags.proofs.Conducts.{conduct}
use Rattle.handling.specs.Laws.{NoneSent, PumpRow, sends_check}
use Rattle.tray_core.specs.Hiding.{Which, accepts, place_accepts, NoneInScript, NoneInCall, NoCheck}
use Rattle.tray_core.specs.Rows.{Post}
use Rattle.tray_core.specs.Runs.{Turn, turn}
use Rattle.tray_core.specs.Scripts.{Script, done, send}
use Rattle.tray_core.specs.Step.{Asks, On, Off, Place, Lift, Frame, Stock, refused_by}
use Rattle.tray_core.specs.Stock.{stocktaking}
use Rattle.tray_core.specs.Trays.{Model, after_frame, sounds_of}
use Rattle.handling.proofs.CountFrames.{no_check}
use Rattle.handling.proofs.Mild.{Mild, mild_stock}

-- a tag, and a row
accepts_none : (frame : List ℕ) → is_check (heard frame) ≡ false → (m : PumpMeaning) → (pump_acts.hears frame m).accepted ≡ false
accepts_none frame plain m = conduct.accepting frame m ∙ and_left (is_check (heard frame)) _ plain

place_none : (frame : List ℕ) → is_check (heard frame) ≡ false → (o : Option (Post Shown (List ℕ))) → place_accepts pump_acts frame o ≡ false
place_none frame plain None = refl
place_none frame plain (Some p) = and_right p.here _ (accepts_none frame plain p.tag)

-- a script, a call, a run
module _ {SF HF SB HB : Type 0} (F : Behaviour SF HF) (B : Behaviour SB HB) (row : Model SF HF SB HB → PumpRow) (named : ℕ → Which) (n : ℕ)
    (accepting : (frame : List ℕ) (t : Model SF HF SB HB) → accepts F B (named n) frame t ≡ (t.field && place_accepts pump_acts frame (slice_get (row t) n))) where
  none : (frame : List ℕ) → is_check (heard frame) ≡ false → (t : Model SF HF SB HB) → accepts F B (named n) frame t ≡ false
  none frame plain t = accepting frame t ∙ and_right t.field _ (place_none frame plain (slice_get (row t) n))

  in_script : {A : Type 0} (script : Script A) → Mild script → (t : Model SF HF SB HB) → NoneInScript F B (named n) script t
  in_script (done a) mild t = tt
  in_script (send frame next) mild t =
      (none frame (no_check (heard frame) mild.0) t, in_script (next (sounds_of F B frame t)) (mild.1 (sounds_of F B frame t)) (after_frame F B frame t))

  in_call : (o : Option ℕ) (c : Asks) (t : Model SF HF SB HB) → sends_check c ≡ false → NoneInCall F B (named n) o c t
  in_call (Some why) c t plain = tt
  in_call None On t plain = tt
  in_call None Off t plain = tt
  in_call None (Place k) t plain = tt
  in_call None (Lift k) t plain = tt
  in_call None (Frame frame) t plain = none frame plain t
  in_call None Stock t plain = in_script stocktaking mild_stock t

  pub in_run : (t : Model SF HF SB HB) (cs : List Turn) → NoneSent cs → NoCheck F B (named n) t cs
  in_run t [] sent = tt
  in_run t (c ∷ more) sent =
      let plain : Turn → Type 0 = λ d. sends_check d.call ≡ false in
      (in_call (refused_by c.call t c.buffer c.list) c.call t (All-head plain c more sent), in_run (turn F B c t).tray more (All-tail plain c more sent))
