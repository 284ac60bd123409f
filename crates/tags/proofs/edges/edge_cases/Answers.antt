use Rattle.std.proofs.Common.{refl}
use Rattle.typeb.specs.CheckBytes.{fold_bit, fold_bits, fold_byte, check_bytes, sound}
use Rattle.typeb.specs.Hears.{heard}
use Rattle.tags.proofs.edges.edge_cases.Goals as goal

pub returns : goal.returns
unfolding fold_bit fold_bits fold_byte check_bytes sound heard
returns c = record { rows = refl; hold = refl }
