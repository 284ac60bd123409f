use Rattle.std.proofs.Common.{vec_items, sym, ◌∙◌, arith}
use Rattle.decode.proofs.Stepping.{pair_read}
use Rattle.decode.proofs.lines.read_line.Goals as goal

pub loop-rest-preserved : goal.loop-rest-preserved
loop-rest-preserved c =
    pair_read (vec_items c.loop-rest.bytes) _ c.loop-rest.rest.now c.in-Some.byte (omega arith) (sym c.is_blank.ensures ∙ c.if-is_blank.false) (sym c.pair_byte.ensures ∙ c.in-Some.is) c.in_ok-push-in-len2-up.ensures.items
    ∙ c.loop-rest.invariant
