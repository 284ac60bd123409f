use Rattle.std.proofs.Common.{◌∙◌, arith}
use Rattle.tray_core.specs.Rows.{powers}
use Rattle.tray_core.proofs.Walks.{told_here, told_gone, told_all, row_powers_lem}
use Rattle.tray_core.proofs.walking.power_row.Goals as goal
use Rattle.tray_core.proofs.walking.power_row.Goals.{then-present-i, else-present-i}

pub loop-i-preserved : goal.loop-i-preserved
loop-i-preserved g c =
    elim c.if-present-i.branch [
      | then-present-i w ↦
          told_here g.K.Kind.means c.loop-i.i c.args.present.now c.loop-i.tags c.if-present-i.tags (omega arith) (omega arith) _ _ (powers g.K.Kind.acts c.args.on) w.tags-is w.power_tag.ensures w.index-tags-i.is w.if-present-i.true
          ∙ c.loop-i.invariant
      | else-present-i w ↦
          told_gone g.K.Kind.means c.loop-i.i c.args.present.now c.loop-i.tags c.if-present-i.tags (omega arith) (omega arith) (powers g.K.Kind.acts c.args.on) w.tags-is w.if-present-i.false
          ∙ c.loop-i.invariant
    ]

pub returns : goal.returns
returns g c =
    told_all g.K.Kind.means c.loop-i.i c.args.present.now c.loop-i.tags (omega arith) (powers g.K.Kind.acts c.args.on)
    ∙ c.loop-i.invariant
    ∙ row_powers_lem g.K.Kind.acts c.args.on _
