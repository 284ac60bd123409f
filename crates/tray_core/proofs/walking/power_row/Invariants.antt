use Rattle.std.proofs.Common.{◌≡◌, map}
use Rattle.tray_core.specs.Rows.{powers}
use Rattle.tray_core.specs.Views.{posts}
use Rattle.tray_core.proofs.Walks.{changed_from}
use Rattle.tray_core.proofs.walking.power_row.Given as goal

abbrev pub invariant-loop-i : goal.invariant-loop-i
invariant-loop-i g l =
    changed_from (powers g.K.Kind.acts l.on) l.i (posts l.present (map g.K.Kind.means l.tags))
    ≡ changed_from (powers g.K.Kind.acts l.on) 0 (posts l.present (map g.K.Kind.means l.initial.tags))
