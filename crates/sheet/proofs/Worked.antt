-- Sheets, worked out.
use Rattle.std.proofs.Common.{◌≡◌, refl}
use Rattle.std.specs.Fmt.{digits}
use Rattle.typeb.specs.CheckBytes.{fold_bit, fold_bits, fold_byte, check_bytes, sound}
use Rattle.typeb.specs.Hears.{heard}
use Rattle.tray_core.specs.Stock.{rounds, stocktaking}
use Rattle.sheet.specs.Sheets.{printed_of}
use Rattle.parts.specs.Parts.{lined}
use Rattle.sheet.specs.Worked.{RefusalsWorked, WorkedSheets, one_tag, one_tag_prints, three_tags, three_tags_print}

one_prints : printed_of (lined one_tag) ≡ lined one_tag_prints
unfolding digits fold_bit fold_bits fold_byte check_bytes sound heard
one_prints = refl

three_print : printed_of (lined three_tags) ≡ lined three_tags_print
unfolding digits fold_bit fold_bits fold_byte check_bytes sound heard rounds stocktaking
three_print = refl

refusals_print : RefusalsWorked
unfolding digits fold_bit fold_bits fold_byte check_bytes sound heard
refusals_print = refl

pub worked_sheets : WorkedSheets
worked_sheets = record { one = one_prints; three = three_print; refused = refusals_print }
