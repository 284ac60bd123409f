use Rattle.std.proofs.Common.{◌≡◌, ℕ, ◌/◌, ◌%◌, List, get_or, ap, ◌∙◌, ap₂, arith}
use lib.Bits.{bit_xor}
use Rattle.typeb.specs.CheckBytes.{fold_byte}
use Rattle.typeb.proofs.Residue.{byte_by_row}
use Rattle.typeb.proofs.table.fold_byte.Goals as goal

pub returns : goal.returns
returns c =
    let low : get_or c.to_le_bytes.result 0 0 ≡ c.args.reg % 256 = ap (λ (l : List ℕ). get_or l 0 0) c.to_le_bytes.ensures in
    let top : get_or c.to_le_bytes.result 1 0 ≡ c.args.reg / 256 % 256 = ap (λ (l : List ℕ). get_or l 1 0) c.to_le_bytes.ensures in
    let high : c.from.result ≡ c.args.reg / 256 = omega arith in
    ap₂ bit_xor (c.row.ensures ∙ ap (λ (x : ℕ). fold_byte (bit_xor c.args.byte x) 0) low) high
    ∙ byte_by_row c.args.reg c.args.byte (omega arith)
