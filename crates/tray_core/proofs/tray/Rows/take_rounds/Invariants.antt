use Rattle.std.proofs.Common.{◌≡◌, ◌-◌, ◌*◌, ◌≤◌, eqb, drop}
use Rattle.tray_core.specs.Scripts.{SameEnd}
use Rattle.tray_core.specs.Stock.{rounds, stocktaking}
use Rattle.tray_core.specs.Views.{rows_of, tally_of}
use Rattle.tray_core.proofs.tray.Rows.take_rounds.Given as goal

abbrev pub invariant-loop-n : goal.invariant-loop-n
invariant-loop-n g l =
    (l.p.frames ≤ 32 * l.n)
    × (l.p.rounds ≡ l.n)
    × (l.p.listed ≤ 16 * l.n)
    × (drop l.p.listed l.list ≡ drop l.p.listed l.initial.list)
    × SameEnd g.F.Kind.acts g.B.Kind.acts stocktaking (rows_of g.F.Kind.means g.B.Kind.means l.initial.self) (rounds (8 - l.n) (eqb l.n 0) (tally_of l.p l.list)) (rows_of g.F.Kind.means g.B.Kind.means l.self)
