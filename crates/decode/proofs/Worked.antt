-- Texts, worked out.
use Rattle.std.proofs.Common.{refl}
use Rattle.std.specs.Fmt.{digits}
use Rattle.typeb.specs.CheckBytes.{fold_bit, fold_bits, fold_byte, check_bytes, sound}
use Rattle.typeb.specs.Hears.{heard}
use Rattle.decode.specs.Worked.{WorkedTexts}

pub worked_texts : WorkedTexts
unfolding digits fold_bit fold_bits fold_byte check_bytes sound heard
worked_texts = record { frames_reported = refl; sealed_reported = refl; faults_told = refl }
