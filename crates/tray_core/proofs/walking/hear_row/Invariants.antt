use Rattle.std.proofs.Common.{◌≡◌, ◌+◌, ◌≤◌, map}
use Rattle.typeb.specs.Receives.{on_air}
use Rattle.tray_core.specs.Rows.{hearing}
use Rattle.tray_core.specs.Sounds.{meet}
use Rattle.tray_core.specs.Views.{posts, sounds_in, how_many}
use Rattle.tray_core.proofs.Walks.{changed_from, sounds_from}
use Rattle.tray_core.proofs.walking.hear_row.Given as goal

abbrev pub invariant-loop-i : goal.invariant-loop-i
invariant-loop-i g l =
    (changed_from (hearing g.K.Kind.acts (on_air l.frame)) l.i (posts l.present (map g.K.Kind.means l.tags))
    ≡ changed_from (hearing g.K.Kind.acts (on_air l.frame)) 0 (posts l.present (map g.K.Kind.means l.initial.tags)))
    × (meet (sounds_in l.heard) (sounds_from g.K.Kind.acts (on_air l.frame) l.i l.present (map g.K.Kind.means l.tags))
    ≡ meet (sounds_in l.initial.heard) (sounds_from g.K.Kind.acts (on_air l.frame) 0 l.present (map g.K.Kind.means l.initial.tags)))
    × (how_many l.heard ≤ how_many l.initial.heard + l.i)
