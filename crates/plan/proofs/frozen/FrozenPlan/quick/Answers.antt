use Rattle.std.proofs.Common.{subst}
use Rattle.walk.specs.Runs.{Runs, lent}
use Rattle.plan.proofs.frozen.FrozenPlan.quick.Goals as goal

pub returns : goal.returns
returns g c = λ j f.
    let a = c.args in
    let z = c.quick.new in
    subst (λ frame. Runs frame (g.R.Ranking.key a.ranking.now)
    (lent a.trail.now a.marks.now a.progress.now a.grid.now)
    (lent z.trail z.marks z.progress z.grid) c.quick.result)
    (c.frame.ensures.law j f) c.quick.ensures
