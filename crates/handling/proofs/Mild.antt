-- Taking stock sends no data command.
use Rattle.std.proofs.Common.{ℕ, zero, suc, Bool, true, false, List, [], ◌∷◌, map, Some, None, Option, refl, arith}
use Rattle.std.specs.List.{range_with_len}
use Rattle.std.proofs.lemmas.Bool.{cond_both}
use Rattle.typeb.specs.Hears.{heard}
use Rattle.reader.specs.Commands.{Request, SlotMarker, Halt, body_for, frame_for}
use Rattle.tray_core.specs.Scripts.{Script, done, send}
use Rattle.tray_core.specs.Sounds.{Sounds, Silence, Reply, Clash}
use Rattle.tray_core.specs.Stock.{Tally, nothing, next_round, answering, halting, in_slot, slots, round_frames, rounds, stocktaking}
use Rattle.handling.proofs.CountFrames.{Plain, no_command}

-- a script that sends no data command, whatever it hears
abbrev pub Mild : {A : Type 0} → Script A → Type 0
Mild (done a) = Unit {0}
Mild (send frame next) = Plain (heard frame) × ((s : Sounds) → Mild (next s))

abbrev AllMild : List (List ℕ) → Type 0
AllMild [] = Unit {0}
AllMild (frame ∷ frames) = Plain (heard frame) × AllMild frames

-- a slot, and slots
mild_halting : (o : Option (List ℕ)) (next : Tally → Script Tally) → ((c : Tally) → Mild (next c)) → (c : Tally) → Mild (halting o next c)
mild_halting (Some serial) next mild c = (no_command (body_for (Halt serial)) (λ ten. refl), λ _. mild _)
mild_halting None next mild c = mild c

mild_heard : (s : Sounds) (next : Tally → Script Tally) → ((c : Tally) → Mild (next c)) → (c : Tally) → Mild (in_slot s next c)
mild_heard Silence next mild c = mild c
mild_heard (Reply bytes) next mild c = mild_halting (answering bytes) next mild _
mild_heard (Clash n) next mild c = mild _

mild_slots : (frames : List (List ℕ)) → AllMild frames → (next : Tally → Script Tally) → ((c : Tally) → Mild (next c)) → (c : Tally) → Mild (slots frames next c)
mild_slots [] all next mild c = mild c
mild_slots (frame ∷ frames) all next mild c =
    (all.0, λ s. mild_heard s (slots frames next) (mild_slots frames all.1 next mild) _)

-- rounds
mild_markers : (ns : List ℕ) → AllMild (map (λ n. frame_for (SlotMarker n)) ns)
mild_markers [] = tt
mild_markers (n ∷ ns) = (no_command (body_for (SlotMarker n)) (λ ten. absurd (omega arith)), mild_markers ns)

mild_frames : (wake_up : Bool) → AllMild (round_frames wake_up)
mild_frames wake_up = (no_command (body_for (Request wake_up 0x00 16)) (λ ten. absurd (omega arith)), mild_markers (range_with_len 2 15))

mild_rounds : (n : ℕ) (wake_up : Bool) (c : Tally) → Mild (rounds n wake_up c)
unfolding rounds
mild_rounds zero wake_up c = tt
mild_rounds (suc n) wake_up c =
    mild_slots (round_frames wake_up) (mild_frames wake_up) _
    (λ d. cond_both d.silent _ _ Mild (λ _. tt) (λ _. mild_rounds n false d)) (next_round c)

pub mild_stock : Mild stocktaking
unfolding stocktaking
mild_stock = mild_rounds 8 true nothing
