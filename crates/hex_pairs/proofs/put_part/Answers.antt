use Rattle.std.proofs.Common.{rules}
use Rattle.std.proofs.lemmas.Str.{IsUtf8-from_ascii}
use Rattle.hex_pairs.specs.Hex.{hex_text}
use Rattle.hex_pairs.proofs.Texts.{text_ascii}
use Rattle.hex_pairs.proofs.put_part.Goals as goal

-- the digits are ASCII, and so UTF-8
pub unreachable-requires : goal.unreachable-requires
unreachable-requires g c =
    let ascii = text_ascii c.args.part.now (λ i. search rules) in
    c.in_default.ensures.cases.0 (rw c.part_digits-text.ensures (IsUtf8-from_ascii (hex_text c.args.part.now) ascii))
