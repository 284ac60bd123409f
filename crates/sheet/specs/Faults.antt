-- The number that is printed for a fault of a line.
use Rattle.std.specs.Prelude.{ℕ}
use Rattle.refusals.specs.Numbers.{number}
use Rattle.sheet.specs.declared.faults.LineFault.{LineFault}
use Rattle.sheet.specs.declared.faults.LineFault.TheVariants as is

abbrev pub fault_number : LineFault → ℕ
fault_number is.Unended = 13
fault_number is.UnknownWord = 14
fault_number is.FieldCount = 15
fault_number (is.Field fault) = 16
fault_number is.TagAfterCall = 17
fault_number is.NoSuchPage = 18
fault_number (is.Refused why) = number why
