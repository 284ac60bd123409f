use Rattle.std.proofs.Common.{rules}
use Rattle.typeb.proofs.Bodies.{attrib_cut}
use Rattle.typeb.proofs.frames.put_attrib.Goals as goal

pub returns : goal.returns
returns c =
    let body = attrib_cut c.args.serial c.args.params c.args.inf.now _ (search rules) (search rules) c.copy_from_slice.ensures.after in
    let sealed = rw body at c.seal_into.ensures in
    search rules
