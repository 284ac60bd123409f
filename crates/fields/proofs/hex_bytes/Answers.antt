use Rattle.std.proofs.Common.{◌≡◌, ◌%◌, ℕ, List, length, take, Some, sym, ap, ◌∙◌, arith}
use Rattle.std.proofs.lemmas.Bool.Decides.{nat_tests}
use Rattle.fields.proofs.Digits.{odd_digits, of_pairs, pairs_read, pair_missing}
use Rattle.fields.proofs.hex_bytes.Goals as goal

pub returns-then-not-is_empty : goal.returns-then-not-is_empty
returns-then-not-is_empty c =
    let odd : length c.args.field.now % 2 ≡ 1 = grind (arith, nat_tests) in
    sym (odd_digits c.args.field.now odd)

pub returns-in_err-bytes : goal.returns-in_err-bytes
returns-in_err-bytes c =
    let even : length c.args.field.now % 2 ≡ 0 = grind (arith, nat_tests) in
    rw c.from_residual.ensures (pair_missing c.as_chunks.result.0.now c.loop-i.i _ (take c.loop-i.i c.loop-i.bytes) (omega arith) c.in_err-bytes.ensures c.loop-i.invariant.0 ∙ of_pairs c.args.field.now c.as_chunks.result.0.now c.as_chunks.ensures.front even)

pub returns : goal.returns
returns c =
    let even : length c.args.field.now % 2 ≡ 0 = grind (arith, nat_tests) in
    let all : c.loop-i.i ≡ length c.as_chunks.result.0.now = omega arith in
    ap (λ (x : List ℕ). Some x) (c.front_of.ensures ∙ ap (λ (n : ℕ). take n c.loop-i.bytes) (sym all))
    ∙ pairs_read c.as_chunks.result.0.now c.loop-i.i (take c.loop-i.i c.loop-i.bytes) (omega arith) c.loop-i.invariant.0
    ∙ of_pairs c.args.field.now c.as_chunks.result.0.now c.as_chunks.ensures.front even
