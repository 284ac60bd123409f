use Rattle.tray_core.proofs.HiddenPart.{hiding}
use Rattle.tray_core.proofs.tray.Tray.load.Goals as goal

pub returns-then-len-gt32-clause-hiding : goal.returns-then-len-gt32-clause-hiding
returns-then-len-gt32-clause-hiding g c = hiding g.F.Kind.acts g.B.Kind.acts g.met.F.Kind.duties g.met.B.Kind.duties

pub returns-clause-hiding : goal.returns-clause-hiding
returns-clause-hiding g c = hiding g.F.Kind.acts g.B.Kind.acts g.met.F.Kind.duties g.met.B.Kind.duties
