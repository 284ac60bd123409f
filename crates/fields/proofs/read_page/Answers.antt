use Rattle.std.proofs.Common.{◌≡◌, ℕ, length, List, Ok, ap, ◌∙◌, arith}
use Rattle.std.proofs.lemmas.List.{take_all}
use Rattle.typeb.specs.Messages.{bytes_of}
use Rattle.fields.proofs.Digits.{bytes_within}
use Rattle.fields.proofs.read_page.Goals as goal

pub unwrap-requires : goal.unwrap-requires
unwrap-requires c =
    let size = bytes_within 8 8 c.args.field.now (bytes_of c.in_ok-bytes.bytes) c.in_ok-bytes.ensures in
    c.first_chunk.ensures.variant.1 (omega (arith, size.low, ap length c.as_slice.ensures.result))

pub returns : goal.returns
returns c =
    let size = bytes_within 8 8 c.args.field.now (bytes_of c.in_ok-bytes.bytes) c.in_ok-bytes.ensures in
    let chunk = rw c.unwrap.ensures at c.first_chunk.ensures.cases in
    let page : c.unwrap.result.now ≡ bytes_of c.in_ok-bytes.bytes = chunk.same ∙ take_all 8 c.as_slice.result.now (omega (arith, size.high, ap length c.as_slice.ensures.result)) ∙ c.as_slice.ensures.result in
    ap (λ (x : List ℕ). Ok x) page ∙ c.in_ok-bytes.ensures
