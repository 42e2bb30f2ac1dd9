-- Plans after a journal.
use Rattle.std.specs.Prelude.{◌≡◌, Result, OnErr}
use Rattle.reserved.specs.Held.{held}
use Rattle.table.specs.declared.fault.PlanFault.{PlanFault}
use Rattle.table.specs.Tables.{flows_in}
use Rattle.plan.specs.declared.phase.Phase.{Ghosts}
use Rattle.plan.specs.declared.plan.Plan.{Plan}
use Rattle.calls.specs.Calls.{Call}
use Rattle.plan.specs.Journal.{Journal, answer, after}
use Rattle.plan.specs.Follows.{Follows}

module _ {P : Type 0} {phase : Ghosts P} where
  -- the plan stands after the journal
  abbrev pub After : Journal → Plan P phase → Type 0
  After j p = Follows j (flows_in p.table) p.map (held p.changes)

  -- a refusal leaves the plan as it was, all of it
  abbrev pub Spares : Result (Unit {0}) PlanFault → Plan P phase → Plan P phase → Type 0
  Spares r before behind = OnErr r (behind ≡ before)

  -- whatever journal the plan stood after, the answer is the journal's, and the plan stands after the journal and the call
  abbrev pub Obeys : Call → Plan P phase → Plan P phase → Result (Unit {0}) PlanFault → Type 0
  Obeys call before behind r = (j : Journal) → After j before → (r ≡ answer call j) × After (after call j) behind
