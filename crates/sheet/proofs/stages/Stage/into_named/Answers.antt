use Rattle.std.proofs.Common.{refl, ap}
use Rattle.tags.specs.Gauge.{gauge_means}
use Rattle.tags.specs.Pump.{pump_means}
use Rattle.tray_core.specs.Views.{model_of}
use Rattle.sheet.specs.Views.{stage_of}
use Rattle.sheet.proofs.stages.Stage.into_named.Goals as goal

pub returns : goal.returns
returns c = (model_of pump_means gauge_means c.in-Calling.field-0, ap stage_of c.in-Calling.is, refl)
