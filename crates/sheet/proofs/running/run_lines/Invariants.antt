-- What was printed, before what the rest prints, is the run of the whole sheet behind what was there.
use Rattle.std.proofs.Common.{◌≡◌, ◌+◌, [], string_bytes}
use Rattle.parts.specs.Parts.{parted}
use Rattle.sheet.specs.Sheets.{Naming, before, lines_run}
use Rattle.sheet.specs.Views.{stage_of}
use Rattle.sheet.proofs.running.run_lines.Given as goal

abbrev pub invariant-loop-i : goal.invariant-loop-i
invariant-loop-i l = before (string_bytes l.text) (lines_run (l.i-iterator.count + 1) (stage_of l.stage) (parted 10 l.i-iterator.iter.rest.now)) ≡ before (string_bytes l.initial.text) (lines_run 1 (Naming [] []) (parted 10 l.sheet))
