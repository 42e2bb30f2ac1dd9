use Rattle.std.proofs.Common.{◌≡◌, None}
use Rattle.reserved.specs.Held.{held}
use Rattle.table.specs.Tables.{flows_in}
use Rattle.calls.specs.Calls.{set_map}
use Rattle.flow.proofs.Checks.{unless-passed}
use Rattle.plan.specs.Journal.{Journal, maps, map_fault, called, noted}
use Rattle.plan.specs.Plans.{After}
use Rattle.plan.proofs.Following.{more, table_fits, follows-map}
use Rattle.plan.proofs.Obeying.{Moves, sounds, list-refused, list-granted, value_same}
use Rattle.plan.proofs.edit.OpenPlan.map.Goals as goal
use Rattle.plan.proofs.edit.OpenPlan.map.Goals.{In_ok-map, After-push}

-- the journal lists the change, if there is a place
called_is : (c : In_ok-map) (j : Journal) → After j c.args.self.now →
    let m = c.args.channels in called (set_map m) j ≡ noted None (maps m) j
called_is c j f = let m = c.args.channels in unless-passed (map_fault m) m _ _ c.in_ok-map.ensures

pub returns-in_err-check_room-clause-law : goal.returns-in_err-check_room-clause-law
returns-in_err-check_room-clause-law c =
    let m = c.args.channels in
    let calls = called_is (goal.at.returns-in_err-check_room-clause-law c).In_ok-map in
    list-refused c.args.self.now (set_map m) None (maps m) calls _ _
    c.from_residual-in_err-check_room.ensures.1 c.in_err-check_room.ensures

-- the plan with the new map follows the journal with the change
moved : (c : After-push) →
    let p = c.args.self.now in
    let changes = held c.push.new.self in
    Moves p (more (maps c.args.channels)) (flows_in p.table) c.in_ok-map.map changes
moved c j f =
    let m = c.args.channels in
    follows-map f (table_fits c.args.self.now.table) m
    (value_same (map_fault m) m _ c.in_ok-map.ensures) c.push.ensures.value

pub invariant_of-self-clause-sound : goal.invariant_of-self-clause-sound
invariant_of-self-clause-sound c =
    sounds c.args.self.now (more (maps c.args.channels)) (moved (goal.at.invariant_of-self-clause-sound c).After-push)

pub returns-clause-law : goal.returns-clause-law
returns-clause-law c =
    let m = c.args.channels in
    let calls = called_is (goal.at.returns-clause-law c).In_ok-map in
    list-granted c.args.self.now (set_map m) None (maps m) calls _
    c.in_ok-check_room.ensures (moved (goal.at.returns-clause-law c).After-push)
