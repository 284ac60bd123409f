-- A loaded tray, place by place.
use Rattle.std.proofs.Common.{List, refl}
use Rattle.std.proofs.lemmas.Option.{slice_get-map}
use Rattle.kinds.specs.Kinds.{Meaning}
use Rattle.tray_core.specs.Loading.{Loads}
use Rattle.tray_core.specs.Trays.{present}

pub loads : {SF HF SB HB : Type 0} (fs : List (Meaning SF HF)) (bs : List (Meaning SB HB)) → Loads fs bs
loads fs bs = record { dark = refl; front = slice_get-map present fs; back = slice_get-map present bs }
