use Rattle.std.proofs.Common.{replicate, ap, sym, Ok}
use Rattle.tags.proofs.pump.Linked+PumpPages.blank.Goals as goal

pub returns-clause-made : goal.returns-clause-made
returns-clause-made c = record { image = replicate 256 0; draw = c.args.draw; from = ap Ok (sym c.made.ensures) }
