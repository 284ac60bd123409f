use Rattle.std.proofs.Common.{sym, refl}
use Rattle.std.proofs.lemmas.Bool.{cond-false, lt-leb}
use Rattle.std.proofs.Output.{has_written_of_eq, has_written_append}
use Rattle.decode.proofs.faults.QuotedDisplay.fmt.Goals as goal

pub returns-in_ok-put_quoted-clause-writes : goal.returns-in_ok-put_quoted-clause-writes
returns-in_ok-put_quoted-clause-writes g c = λ plain ok.
    let start = c.in_ok-put_quoted.ensures plain refl in
    let end = c.write_str.ensures.writes start.plain ok in
    has_written_of_eq g.W.Write.write_str_gives _ _ _ _
    (sym (cond-false _ _ _ (lt-leb _ _ c.if-line-le40.false)))
    (has_written_append g.W.Write.write_str_gives _ _ _ _ _ start end)
