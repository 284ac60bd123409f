use Rattle.std.proofs.Common.{ℕ, arith}
use Rattle.std.proofs.lemmas.List.FromFn.{get_or-map-range_with_len}
use Rattle.typeb.specs.CheckBytes.{fold_bit, fold_bits, fold_byte}
use Rattle.typeb.proofs.table.row.Goals as goal

pub returns : goal.returns
unfolding fold_byte fold_bits fold_bit
returns c = get_or-map-range_with_len (λ (i : ℕ). fold_byte i 0) 0 256 c.args.byte c.args.byte _ (omega arith) (omega arith)
