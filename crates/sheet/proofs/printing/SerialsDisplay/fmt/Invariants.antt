-- The serial numbers so far are written.
use Rattle.std.proofs.Common.{take}
use Rattle.std.specs.List.{flat_map}
use Rattle.std.specs.Fmt.{IsPlainFormatter, HasWritten}
use Rattle.sheet.specs.Printing.{serial_line}
use Rattle.sheet.proofs.printing.SerialsDisplay.fmt.Given as goal

abbrev pub invariant-loop-serial : goal.invariant-loop-serial
invariant-loop-serial g l = IsPlainFormatter l.initial.f → HasWritten g.W.Write.write_str_gives l.initial.f (flat_map (serial_line l.self.number) (take l.serial-index l.self.list.now)) l.f
