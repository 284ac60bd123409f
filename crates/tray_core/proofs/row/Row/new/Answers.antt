use Rattle.std.proofs.Common.{map, vec_items}
use Rattle.tray_core.proofs.Lined.{all_present}
use Rattle.tray_core.proofs.row.Row.new.Goals as goal

pub returns : goal.returns
returns g c = all_present 32 (map g.K.Kind.means (vec_items c.args.tags))
