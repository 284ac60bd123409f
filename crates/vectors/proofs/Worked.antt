-- Verdicts, worked out.
use Rattle.std.proofs.Common.{refl}
use Rattle.typeb.specs.CheckBytes.{fold_bit, fold_bits, fold_byte, check_bytes, sound}
use Rattle.vectors.specs.Worked.{WorkedVerdicts}

pub worked_verdicts : WorkedVerdicts
unfolding fold_bit fold_bits fold_byte check_bytes sound
worked_verdicts =
    record { first = refl; second = refl; third = refl; request = refl; swapped = refl; other = refl; empty = refl; cleared = refl; set = refl }
