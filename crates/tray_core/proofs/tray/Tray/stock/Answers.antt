use Rattle.std.proofs.Common.{Bool, cond, None, Some, length, ap, arith}
use Rattle.std.proofs.lemmas.Bool.{le-leb}
use Rattle.tray_core.specs.Step.{Stock}
use Rattle.tray_core.specs.Views.{rows_of}
use Rattle.tray_core.proofs.Asked.{asked}
use Rattle.tray_core.proofs.Stocked.{stocked}
use Rattle.tray_core.proofs.tray.Tray.stock.Goals as goal

pub returns-clause-result : goal.returns-clause-result
returns-clause-result g c =
    λ b.
    let p = c.take_rounds-frames.ensures in
    asked g.F.Kind.means g.B.Kind.means c.in_ok-rows.rows.now g.F.Kind.acts g.B.Kind.acts c.args.self.now c.in_ok-rows.ensures.rows Stock None b b c.args.list.now _ _ _
    (ap (λ (x : Bool). cond x None (Some 7)) (le-leb 128 (length c.args.list.now) (omega arith)))
    (stocked g.F.Kind.acts g.B.Kind.acts (rows_of g.F.Kind.means g.B.Kind.means c.in_ok-rows.rows.now) (rows_of g.F.Kind.means g.B.Kind.means c.take_rounds-frames.new.self) b c.args.list.now c.take_rounds-frames.new.list c.take_rounds-frames.result
    (omega arith) (omega arith) p.within p.rest p.plays)
