use Rattle.std.proofs.Common.{◌≡◌, Bool, false, cond, not, ◌&&◌, get_or, ap, ◌∙◌, arith}
use mathlib.Core.Bool.{beq}
use Rattle.tray_core.specs.Rows.{moved, powers}
use Rattle.tray_core.proofs.Lined.{long_row}
use Rattle.tray_core.proofs.Walks.{stored_at, moved_is}
use Rattle.tray_core.proofs.row.Row.move_tag.Goals as goal
use Rattle.tray_core.proofs.row.Row.move_tag.Goals.{then-field+then-self-n, else-field, else-field-via-then-field+else-self-n, else-field-via-else-field}

pub returns : goal.returns
returns g c =
    let long = long_row g.K.Kind.means c.args.self.now in
    let was : Bool = get_or c.args.self.now.present c.args.n false in
    let next : g.K.Kind.means c.if-field.tag ≡ cond (c.args.field && not (beq was c.args.here)) (powers g.K.Kind.acts c.args.here (g.K.Kind.means c.index.result.now)) (g.K.Kind.means c.index.result.now) =
    elim c.if-field.branch [
      | then-field+then-self-n w ↦ simp (w.if-field.true, w.if-self-n.true) (ap g.K.Kind.means w.tag-is ∙ w.power_tag.ensures)
      | else-field w ↦
          elim w.else-field.branch [
            | else-field-via-then-field+else-self-n v ↦ simp (v.if-field.true, v.if-self-n.false) (ap g.K.Kind.means w.tag-is)
            | else-field-via-else-field v ↦ simp (v.if-field.false) (ap g.K.Kind.means w.tag-is)
          ]
    ] in
    stored_at (moved g.K.Kind.acts c.args.here c.args.field) g.K.Kind.means c.args.n c.args.self.now.present c.args.self.now.tags.items c.index.result.now c.if-field.tag c.args.here (omega arith) (omega arith) c.index.ensures
    (moved_is g.K.Kind.acts c.args.here c.args.field was (g.K.Kind.means c.index.result.now) (g.K.Kind.means c.if-field.tag) next)
