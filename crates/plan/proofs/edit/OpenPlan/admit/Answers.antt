use Rattle.std.proofs.Common.{◌≡◌, Some, sym, ap, ◌∙◌}
use Rattle.reserved.specs.Held.{held}
use Rattle.flow.specs.Flows.{flow_spec}
use Rattle.table.specs.Force.{in_force}
use Rattle.table.specs.Tables.{flows_in}
use Rattle.table.proofs.Vetted.{Admitted, vetted-ok}
use Rattle.calls.specs.Calls.{Call, admit}
use Rattle.plan.specs.Journal.{Journal, Change, adds, called, noted}
use Rattle.plan.specs.Plans.{After}
use Rattle.plan.proofs.Following.{more, table_fits, called-admit, follows-admit}
use Rattle.plan.proofs.Obeying.{Moves, sounds, list-refused, list-granted}
use Rattle.plan.proofs.edit.OpenPlan.admit.Goals as goal
use Rattle.plan.proofs.edit.OpenPlan.admit.Goals.{In_ok-flow, After-push}

module _ (c : In_ok-flow) where
  -- the call
  abbrev call : Call
  call = admit c.args.request.number c.args.request.period c.args.request.deadline c.args.request.routes.now

  -- the change
  abbrev change : Change
  change = adds (flow_spec c.in_ok-flow.flow)

  -- the flow was let in
  lets_in : Admitted c.args.request.number (flow_spec c.in_ok-flow.flow) (flows_in c.args.self.now.table)
  lets_in =
      vetted-ok c.args.request.number c.args.request.period c.args.request.deadline c.args.request.routes.now
      (flows_in c.args.self.now.table) (flow_spec c.in_ok-flow.flow) (sym c.in_ok-flow.ensures)

  -- the journal lists the change, if there is a place
  called_is : (j : Journal) → After j c.args.self.now → called call j ≡ noted (Some c.args.request.number) change j
  called_is j f =
      called-admit f c.args.request.number c.args.request.period c.args.request.deadline c.args.request.routes.now
      _ (sym c.in_ok-flow.ensures)

pub insert-requires : goal.insert-requires
insert-requires c =
    let a = lets_in (goal.at.insert-requires c).In_ok-flow in
    record {
      new = ap (λ k. in_force k (flows_in c.args.self.now.table)) a.named ∙ a.placed.new;
      room = a.placed.room;
      short = a.framed.short;
      light = a.framed.light;
    }

pub returns-in_err-check_room-clause-law : goal.returns-in_err-check_room-clause-law
returns-in_err-check_room-clause-law c =
    let d = (goal.at.returns-in_err-check_room-clause-law c).In_ok-flow in
    list-refused c.args.self.now (call d) (Some c.args.request.number) (change d) (called_is d) _ _
    c.from_residual-in_err-check_room.ensures.1 c.in_err-check_room.ensures

-- the plan with the flow follows the journal with the change
moved : (c : After-push) →
    let p = c.args.self.now in
    let changes = held c.push.new.self in
    Moves p (more (change (goal.at.After-push c).In_ok-flow)) (flows_in c.insert.new.self) p.map changes
moved c j f =
    follows-admit f (table_fits c.args.self.now.table) c.args.request.number (flow_spec c.in_ok-flow.flow)
    (lets_in (goal.at.After-push c).In_ok-flow) c.insert.ensures c.push.ensures.value

pub invariant_of-self-clause-sound : goal.invariant_of-self-clause-sound
invariant_of-self-clause-sound c = sounds c.args.self.now (more (adds (flow_spec c.in_ok-flow.flow))) (moved c)

pub returns-clause-law : goal.returns-clause-law
returns-clause-law c =
    let d = (goal.at.returns-clause-law c).In_ok-flow in
    list-granted c.args.self.now (call d) (Some c.args.request.number) (change d) (called_is d) _
    c.in_ok-check_room.ensures (moved (goal.at.returns-clause-law c).After-push)
