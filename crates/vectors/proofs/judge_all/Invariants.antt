-- No more examples agree than were run.
use Rattle.std.proofs.Common.{◌≤◌}
use Rattle.vectors.proofs.judge_all.Given as goal

abbrev pub invariant-loop-body : goal.invariant-loop-body
invariant-loop-body l = l.agree ≤ l.body-index
