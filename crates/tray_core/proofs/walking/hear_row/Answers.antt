use Rattle.std.proofs.Common.{sym, ap, ◌∙◌, arith}
use Rattle.typeb.specs.Receives.{on_air}
use Rattle.tray_core.specs.Rows.{hearing}
use Rattle.tray_core.specs.Sounds.{meet}
use Rattle.tray_core.specs.Views.{sounds_in, how_many}
use Rattle.tray_core.proofs.Meets.{joins_on, stays_on, silence}
use Rattle.tray_core.proofs.Walks.{told_here, told_gone, told_all, heard_here, heard_gone, heard_all}
use Rattle.tray_core.proofs.walking.hear_row.Goals as goal
use Rattle.tray_core.proofs.walking.hear_row.Goals.{then-present-i, else-present-i}

pub loop-i-preserved : goal.loop-i-preserved
loop-i-preserved g c =
    elim c.if-present-i.branch [
      | then-present-i w ↦
          let own = w.tell_tag.ensures in
          let more = ap how_many w.heard-is in (
            told_here g.K.Kind.means c.loop-i.i c.args.present.now c.loop-i.tags c.if-present-i.tags (omega arith) (omega arith) _ _ (hearing g.K.Kind.acts (on_air c.args.frame.now)) w.tags-is own.after w.index-tags-i.is w.if-present-i.true
                ∙ c.loop-i.invariant.0,
            joins_on (sounds_in c.loop-i.heard) _ (sounds_in c.if-present-i.heard) _ _
                (ap sounds_in w.heard-is ∙ own.sounds)
                (heard_here g.K.Kind.means c.loop-i.i c.args.present.now c.loop-i.tags c.if-present-i.tags (omega arith) (omega arith) g.K.Kind.acts (on_air c.args.frame.now) _ _ w.tags-is own.after w.index-tags-i.is w.if-present-i.true)
                ∙ c.loop-i.invariant.1,
            omega arith,
          )
      | else-present-i w ↦
          let same = ap how_many w.heard-is in (
            told_gone g.K.Kind.means c.loop-i.i c.args.present.now c.loop-i.tags c.if-present-i.tags (omega arith) (omega arith) (hearing g.K.Kind.acts (on_air c.args.frame.now)) w.tags-is w.if-present-i.false
                ∙ c.loop-i.invariant.0,
            stays_on (sounds_in c.loop-i.heard) (sounds_in c.if-present-i.heard) _ _ (ap sounds_in w.heard-is)
                (heard_gone g.K.Kind.means c.loop-i.i c.args.present.now c.loop-i.tags c.if-present-i.tags (omega arith) (omega arith) g.K.Kind.acts (on_air c.args.frame.now) w.tags-is w.if-present-i.false)
                ∙ c.loop-i.invariant.1,
            omega arith,
          )
    ]

pub returns : goal.returns
returns g c =
    record {
      after =
          told_all g.K.Kind.means c.loop-i.i c.args.present.now c.loop-i.tags (omega arith) (hearing g.K.Kind.acts (on_air c.args.frame.now))
          ∙ c.loop-i.invariant.0;
      sounds =
          sym (silence (sounds_in c.loop-i.heard))
          ∙ ap (meet (sounds_in c.loop-i.heard)) (sym (heard_all g.K.Kind.means c.loop-i.i c.args.present.now c.loop-i.tags (omega arith) g.K.Kind.acts (on_air c.args.frame.now)))
          ∙ c.loop-i.invariant.1;
      count = omega arith;
    }
