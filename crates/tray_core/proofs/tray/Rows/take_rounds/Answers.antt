use Rattle.std.proofs.Common.{◌+◌, ◌-◌, eqb, refl, ◌∙◌, arith, lit≤}
use Rattle.std.proofs.lemmas.Bool.{ne_eqb}
use Rattle.tray_core.specs.Stock.{stocktaking}
use Rattle.tray_core.proofs.Rounds.{drop_later, goes_on, no_round_left, one_round, silent_end}
use Rattle.tray_core.proofs.tray.Rows.take_rounds.Goals as goal

pub loop-n-init : goal.loop-n-init
unfolding stocktaking
loop-n-init g c = (lit≤ tt, refl, lit≤ tt, refl, record { result = refl; tray = refl })

pub returns-then-p : goal.returns-then-p
returns-then-p g c =
    let inv = c.loop-n.invariant in
    let step = c.take_round-p.ensures in
    let goes = step.goes in
    record {
      within = omega arith;
      rest = goes.rest ∙ drop_later _ _ _ _ goes.more inv.3;
      plays =
          silent_end g.F.Kind.acts g.B.Kind.acts stocktaking (8 - (c.loop-n.n + 1)) _ _ _ c.if-p.true
          (one_round g.F.Kind.acts g.B.Kind.acts (8 - c.loop-n.n) (8 - (c.loop-n.n + 1)) (eqb c.loop-n.n 0) stocktaking _ _ _ _ _ (omega arith) inv.4 step.plays);
    }

pub loop-n-preserved : goal.loop-n-preserved
loop-n-preserved g c =
    let inv = c.loop-n.invariant in
    let step = c.take_round-p.ensures in
    let goes = step.goes in (
      omega arith,
      goes.rounds ∙ omega arith,
      omega arith,
      goes.rest ∙ drop_later _ _ _ _ goes.more inv.3,
      goes_on g.F.Kind.acts g.B.Kind.acts stocktaking (8 - (c.loop-n.n + 1)) (eqb (c.loop-n.n + 1) 0) _ _ _ c.if-p.false (ne_eqb _ _ (λ e. omega arith))
          (one_round g.F.Kind.acts g.B.Kind.acts (8 - c.loop-n.n) (8 - (c.loop-n.n + 1)) (eqb c.loop-n.n 0) stocktaking _ _ _ _ _ (omega arith) inv.4 step.plays),
    )

pub returns : goal.returns
returns g c =
    let inv = c.loop-n.invariant in
    record {
      within = omega arith;
      rest = inv.3;
      plays = no_round_left g.F.Kind.acts g.B.Kind.acts stocktaking (8 - c.loop-n.n) (eqb c.loop-n.n 0) _ _ _ (omega arith) inv.4;
    }
