use Rattle.std.proofs.Common.{◌≡◌, Some}
use Rattle.reserved.specs.Held.{held}
use Rattle.table.specs.Tables.{flows_in}
use Rattle.calls.specs.Calls.{retire}
use Rattle.plan.specs.Journal.{Journal, removes, called, noted}
use Rattle.plan.specs.Plans.{After}
use Rattle.plan.proofs.Following.{more, table_fits, retire-passed, follows-retire}
use Rattle.plan.proofs.Obeying.{Moves, sounds, list-refused, list-granted}
use Rattle.plan.proofs.edit.OpenPlan.retire.Goals as goal
use Rattle.plan.proofs.edit.OpenPlan.retire.Goals.{In_ok-check_retire, After-push}

-- the journal lists the change, if there is a place
called_is : (c : In_ok-check_retire) (j : Journal) → After j c.args.self.now →
    let n = c.args.number in called (retire n) j ≡ noted (Some n) (removes n) j
called_is c j f = retire-passed f c.args.number _ c.in_ok-check_retire.ensures

pub returns-in_err-check_room-clause-law : goal.returns-in_err-check_room-clause-law
returns-in_err-check_room-clause-law c =
    let n = c.args.number in
    let calls = called_is (goal.at.returns-in_err-check_room-clause-law c).In_ok-check_retire in
    list-refused c.args.self.now (retire n) (Some n) (removes n) calls _ _
    c.from_residual-in_err-check_room.ensures.1 c.in_err-check_room.ensures

-- the plan without the flow follows the journal with the change
moved : (c : After-push) →
    let p = c.args.self.now in
    let changes = held c.push.new.self in
    Moves p (more (removes c.args.number)) (flows_in c.remove-flow.new.self) p.map changes
moved c j f =
    let t = c.args.self.now.table in
    let r = c.remove-flow in
    follows-retire f (table_fits t) c.args.number r.result
    t.rises r.ensures.named r.ensures.back r.ensures.after c.push.ensures.value

pub invariant_of-self-clause-sound : goal.invariant_of-self-clause-sound
invariant_of-self-clause-sound c = sounds c.args.self.now (more (removes c.args.number)) (moved c)

pub returns-clause-law : goal.returns-clause-law
returns-clause-law c =
    let n = c.args.number in
    let calls = called_is (goal.at.returns-clause-law c).In_ok-check_retire in
    list-granted c.args.self.now (retire n) (Some n) (removes n) calls _
    c.in_ok-check_room.ensures (moved (goal.at.returns-clause-law c).After-push)
