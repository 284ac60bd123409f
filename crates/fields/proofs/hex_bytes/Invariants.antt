-- The bytes that were read, before those of the pairs that are left, are the bytes of the field.
use Rattle.std.proofs.Common.{◌≡◌, length, take, drop}
use Rattle.fields.proofs.Digits.{followed, pairs_bytes}
use Rattle.fields.proofs.hex_bytes.Given as goal

abbrev pub invariant-loop-i : goal.invariant-loop-i
invariant-loop-i l = (followed (take l.i l.bytes) (pairs_bytes (drop l.i l.pairs)) ≡ pairs_bytes l.pairs) × (length l.bytes ≡ 16)
