use Rattle.std.proofs.Common.{arith, rules}
use Rattle.hex_pairs.proofs.Texts.{part_more, all_taken}
use Rattle.hex_pairs.proofs.part_digits.Goals as goal

pub loop-i-preserved : goal.loop-i-preserved
loop-i-preserved c =
    let so_far = c.loop-i.invariant in (
      search rules,
      rw c.digits.ensures
          (part_more c.args.part.now c.loop-i.text c.loop-i.i (omega arith) (omega arith) so_far.1),
    )

pub returns : goal.returns
returns c = all_taken c.args.part.now c.loop-i.text c.loop-i.i (omega arith) (omega arith) c.loop-i.invariant.1
