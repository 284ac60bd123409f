-- The digits of the bytes so far stand at the start.
use Rattle.std.proofs.Common.{◌≡◌, ◌*◌, length, take}
use Rattle.hex_pairs.specs.Hex.{hex_text}
use Rattle.hex_pairs.proofs.part_digits.Given as goal

abbrev pub invariant-loop-i : goal.invariant-loop-i
invariant-loop-i l = (length l.text ≡ 32) × (take (2 * l.i) l.text ≡ hex_text (take l.i l.part))
