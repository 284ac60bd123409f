use Rattle.fields.proofs.Digits.{at_most}
use Rattle.fields.proofs.read_body.Goals as goal

pub returns-clause-bound : goal.returns-clause-bound
returns-clause-bound c = at_most 1 14 c.args.field.now c.read_bytes.result c.read_bytes.ensures
