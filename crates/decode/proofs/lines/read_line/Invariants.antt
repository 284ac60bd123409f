-- The bytes that were read, before those of the rest, are the bytes of the line.
use Rattle.std.proofs.Common.{◌≡◌, length, vec_items}
use Rattle.decode.specs.Lines.{line_bytes}
use Rattle.decode.proofs.Stepping.{followed}
use Rattle.decode.proofs.lines.read_line.Given as goal

abbrev pub invariant-loop-rest : goal.invariant-loop-rest
invariant-loop-rest l = followed (vec_items l.bytes) (line_bytes l.rest) ≡ line_bytes l.line

abbrev pub decreases-loop-rest : goal.decreases-loop-rest
decreases-loop-rest l = length l.rest
