-- A tray lends its rows, where they fit.
use Rattle.std.specs.Prelude.{Ok, Result}
use Rattle.std.specs.Borrow.{Fml, LendsIfOk, MutBor, RattleType}
use Rattle.refusals.specs.declared.Refusal.{Refusal}
use Rattle.tray_core.specs.declared.tray.Rows.{Rows}
use Rattle.tray_core.specs.declared.tray.Tray.{Tray}
use Rattle.tray_core.specs.contracts.tray.Rows as rows
use Rattle.tray_core.specs.contracts.tray.Tray as tray

module _ (F B : RattleType) where
  abbrev pub LendsRows : MutBor (Tray F.Denot B.Denot) → Result (MutBor (Rows F.Denot B.Denot)) Refusal → Fml
  LendsRows t r = LendsIfOk (tray.the_row F B) (rows.the_row F B) t r (λ w. record { rows = Ok w }) t.now
