use std.Logic.{∥∥₁_elim}
use Rattle.typeb.proofs.Distinct.{heard_set}
use Rattle.typeb.proofs.received.Received.told.Goals as goal

pub returns : goal.returns
returns c = ∥∥₁_elim c.args.self.now.read (heard_set _ _) (λ e. e)
