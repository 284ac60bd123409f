use Rattle.std.proofs.Common.{drop}
use Rattle.tray_core.specs.Scripts.{Script, SameEnd}
use Rattle.tray_core.specs.Stock.{Tally, slots, round_frames}
use Rattle.tray_core.specs.Views.{GoesOn, rows_of, tally_of}
use Rattle.tray_core.proofs.tray.Rows.take_round.Given as goal

abbrev pub invariant-loop-i : goal.invariant-loop-i
invariant-loop-i g l =
    GoesOn l.i l.initial.p l.initial.list l.p l.list
    × ((next : Tally → Script Tally)
    → SameEnd g.F.Kind.acts g.B.Kind.acts
    (slots (round_frames l.wake_up) next (tally_of l.initial.p l.initial.list)) (rows_of g.F.Kind.means g.B.Kind.means l.initial.self)
    (slots (drop l.i (round_frames l.wake_up)) next (tally_of l.p l.list)) (rows_of g.F.Kind.means g.B.Kind.means l.self))
