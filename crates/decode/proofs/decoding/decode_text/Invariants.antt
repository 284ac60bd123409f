-- What was taken in, before what the other lines give, is what the whole text gives.
use Rattle.std.proofs.Common.{◌≡◌, ◌+◌, ◌++◌, length, drop, string_bytes}
use Rattle.decode.specs.Lines.{lines_of}
use Rattle.decode.specs.Report.{all_reports, all_faults}
use Rattle.decode.proofs.decoding.decode_text.Given as goal

abbrev pub invariant-loop-i : goal.invariant-loop-i
invariant-loop-i l =
    (string_bytes l.decoded.reports ++ all_reports l.sealing (drop (length l.yielded) (lines_of l.text)) ≡ all_reports l.sealing (lines_of l.text))
    × (string_bytes l.decoded.faults ++ all_faults (length l.yielded + 1) (drop (length l.yielded) (lines_of l.text)) ≡ all_faults 1 (lines_of l.text))
