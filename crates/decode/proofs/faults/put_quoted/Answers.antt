use Rattle.std.proofs.Common.{refl, arith}
use Rattle.std.proofs.Output.{has_written_of_eq, has_written_append}
use Rattle.decode.proofs.Quotes.{quoted_more}
use Rattle.decode.proofs.faults.put_quoted.Goals as goal

pub loop-c-preserved : goal.loop-c-preserved
loop-c-preserved g c = λ plain.
    let before = c.loop-c.invariant plain in
    let put = c.in_ok-put_byte.ensures before.plain refl in
    has_written_of_eq g.W.Write.write_str_gives _ _ _ _
    (quoted_more c.args.text.now c.loop-c.c-index (omega arith))
    (has_written_append g.W.Write.write_str_gives _ _ _ _ _ before put)
