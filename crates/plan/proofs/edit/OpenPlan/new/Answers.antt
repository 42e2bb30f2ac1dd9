use Rattle.std.proofs.Common.{[], sym, refl, subst}
use Rattle.plan.specs.Journal.{blank, fresh}
use Rattle.plan.specs.Follows.{Undoes}
use Rattle.plan.proofs.edit.OpenPlan.new.Goals as goal

pub invariant_of-result-2-clause-sound : goal.invariant_of-result-2-clause-sound
invariant_of-result-2-clause-sound c =
    let empty = subst (Undoes fresh []) (sym c.in_ok-changes.ensures) tt in
    ∣ (blank, record { inforce = c.in_ok-table.ensures; allowed = refl; listed = empty }) ∣₁
