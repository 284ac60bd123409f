use Rattle.std.proofs.Common.{◌≡◌, ℕ, ◌<◌, ◌≤◌, subst, arith}
use Rattle.tray_core.specs.Stock.{round_frames, slots}
use Rattle.tray_core.specs.Views.{GoesOn, begun, rows_of, tally_of}
use Rattle.tray_core.proofs.Rounds.{goes_more, no_slot_left, one_slot}
use Rattle.tray_core.proofs.tray.Rows.take_round.Goals as goal

pub loop-i-preserved : goal.loop-i-preserved
loop-i-preserved g c =
    let inv = c.loop-i.invariant in
    let step = c.take_slot-p.ensures in
    let below : c.loop-i.i < 16 = omega arith in (
      goes_more c.loop-i.i (begun c.args.progress) c.loop-i.p c.take_slot-p.result c.args.list.now c.loop-i.list c.take_slot-p.new.list inv.0 step.goes,
      λ next.
          one_slot g.F.Kind.acts g.B.Kind.acts (round_frames c.args.wake_up) _ c.loop-i.i next
          (tally_of (begun c.args.progress) c.args.list.now) (tally_of c.loop-i.p c.loop-i.list) (tally_of c.take_slot-p.result c.take_slot-p.new.list)
          (rows_of g.F.Kind.means g.B.Kind.means c.args.self.now) (rows_of g.F.Kind.means g.B.Kind.means c.loop-i.self) (rows_of g.F.Kind.means g.B.Kind.means c.take_slot-p.new.self)
          below c.slot_frame.ensures (inv.1 next) step.plays,
    )

pub returns : goal.returns
returns g c =
    let inv = c.loop-i.invariant in
    let all : c.loop-i.i ≡ 16 = omega arith in
    let past : 16 ≤ c.loop-i.i = omega arith in
    record {
      goes = subst (λ (k : ℕ). GoesOn k (begun c.args.progress) c.args.list.now c.loop-i.p c.loop-i.list) all inv.0;
      plays =
          λ next.
          no_slot_left g.F.Kind.acts g.B.Kind.acts (round_frames c.args.wake_up) c.loop-i.i
          (slots (round_frames c.args.wake_up) next (tally_of (begun c.args.progress) c.args.list.now)) next (tally_of c.loop-i.p c.loop-i.list)
          (rows_of g.F.Kind.means g.B.Kind.means c.args.self.now) (rows_of g.F.Kind.means g.B.Kind.means c.loop-i.self)
          past (inv.1 next);
    }
