use Rattle.std.proofs.Common.{refl, subst, rules}
use Rattle.table.specs.Tables.{flows_in}
use Rattle.calls.specs.Calls.{settle}
use Rattle.plan.specs.Journal.{after}
use Rattle.plan.specs.Follows.{Follows}
use Rattle.plan.proofs.Following.{follows_settle}
use Rattle.plan.proofs.Obeying.{sounds}
use Rattle.plan.proofs.edit.OpenPlan.settle.Goals as goal

-- a plan whose list is empty follows the settled journal
pub invariant_of-self-clause-sound : goal.invariant_of-self-clause-sound
invariant_of-self-clause-sound c =
    let p = c.args.self.now in
    sounds p (after settle)
    (λ j f. subst (Follows (after settle j) (flows_in p.table) p.map) (search rules) (follows_settle f))

pub returns : goal.returns
returns c = λ j f.
    let p = c.args.self.now in
    (refl, subst (Follows (after settle j) (flows_in p.table) p.map) (search rules) (follows_settle f))
