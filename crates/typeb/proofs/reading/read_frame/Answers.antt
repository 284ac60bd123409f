use Rattle.std.proofs.Common.{rules}
use Rattle.typeb.proofs.Exact.{hears_exactly}
use Rattle.typeb.proofs.reading.read_frame.Goals as goal

pub returns-in-len2-up-clause-exact : goal.returns-in-len2-up-clause-exact
returns-in-len2-up-clause-exact c = hears_exactly c.args.frame.now (λ i h. search rules)
