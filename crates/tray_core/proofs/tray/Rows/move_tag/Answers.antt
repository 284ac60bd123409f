use Rattle.std.proofs.Common.{arith}
use Rattle.std.proofs.lemmas.Grind.{common_steps}
use Rattle.tray_core.proofs.Asked.{fitting}
use Rattle.tray_core.proofs.tray.Rows.move_tag.Goals as goal
use Rattle.tray_core.proofs.tray.Rows.move_tag.Goals.{else-n-ge32-via-then-n-ge32+else-n-len-2, else-n-ge32-via-else-n-ge32}

pub returns-else-n-ge32 : goal.returns-else-n-ge32
returns-else-n-ge32 g c =
    λ b l.
    elim c.else-n-ge32.branch [
      | else-n-ge32-via-then-n-ge32+else-n-len-2 w ↦ grind (arith, common_steps, fitting)
      | else-n-ge32-via-else-n-ge32 w ↦ grind (arith, common_steps, fitting)
    ]

pub returns-then-n-len : goal.returns-then-n-len
returns-then-n-len g c = λ b l. grind (arith, common_steps, fitting)
