use Rattle.handling.proofs.Lawful.{lawful}
use Rattle.handling.proofs.handle.Goals as goal

pub returns-in-On-clause-runs : goal.returns-in-On-clause-runs
returns-in-On-clause-runs g c = lawful g.F.Kind.acts g.B.Kind.acts g.met.F.Kind.duties g.met.B.Kind.duties

pub returns-in-Off-clause-runs : goal.returns-in-Off-clause-runs
returns-in-Off-clause-runs g c = lawful g.F.Kind.acts g.B.Kind.acts g.met.F.Kind.duties g.met.B.Kind.duties

pub returns-in-Place-clause-runs : goal.returns-in-Place-clause-runs
returns-in-Place-clause-runs g c = lawful g.F.Kind.acts g.B.Kind.acts g.met.F.Kind.duties g.met.B.Kind.duties

pub returns-in-Lift-clause-runs : goal.returns-in-Lift-clause-runs
returns-in-Lift-clause-runs g c = lawful g.F.Kind.acts g.B.Kind.acts g.met.F.Kind.duties g.met.B.Kind.duties

pub returns-in-Frame-clause-runs : goal.returns-in-Frame-clause-runs
returns-in-Frame-clause-runs g c = lawful g.F.Kind.acts g.B.Kind.acts g.met.F.Kind.duties g.met.B.Kind.duties

pub returns-in-Stock-clause-runs : goal.returns-in-Stock-clause-runs
returns-in-Stock-clause-runs g c = lawful g.F.Kind.acts g.B.Kind.acts g.met.F.Kind.duties g.met.B.Kind.duties
