use Rattle.std.proofs.Common.{sym, ◌∙◌}
use Rattle.tray_core.proofs.Slots.{listed_is, noted_new, noted_known}
use Rattle.tray_core.proofs.stock.note.Goals as goal

pub returns-then-contains : goal.returns-then-contains
returns-then-contains c = noted_known c.args.serial c.args.listed c.args.list.now c.requires (sym (listed_is c.args.serial _) ∙ sym c.contains.ensures.value ∙ c.if-contains.true)

pub returns : goal.returns
returns c = noted_new c.args.serial c.args.listed c.args.list.now c.requires (sym (listed_is c.args.serial _) ∙ sym c.contains.ensures.value ∙ c.if-contains.false)
