use Rattle.std.proofs.Common.{◌≤◌, ◌+◌, [], map, drop, ap, ◌∙◌, arith}
use Rattle.reserved.specs.Held.{held}
use Rattle.flow.specs.Flows.{flow_spec}
use Rattle.table.specs.Frame.{transmissions_in}
use Rattle.table.specs.Tables.{flows_in}
use Rattle.frame.specs.Legs.{leg_spec}
use Rattle.legs.specs.Expand.{flow_legs, legs_of}
use Rattle.legs.proofs.Totals.{legs-few}
use Rattle.legs.proofs.Walks.{map_next, next-fits}
use Rattle.legs.proofs.expansion.expand.Goals as goal
use Rattle.legs.proofs.expansion.expand.Goals.{In-loop-flow}

-- the flows that the code goes through have at most 2,048 transmissions
light : (c : In-loop-flow) → transmissions_in c.frame-slots.result (map flow_spec c.as_slice-flow-items.result.now) ≤ 2048
light c =
    let flows = flows_in c.args.table.now in
    let is =
    ap (transmissions_in c.frame-slots.result) c.as_slice-flow-items.ensures.value
    ∙ ap (λ t. transmissions_in t flows) c.frame-slots.ensures.value in
    omega (arith, is, c.args.table.now.light)

pub push_flow-requires-clause-room : goal.push_flow-requires-clause-room
push_flow-requires-clause-room c =
    let fs = c.as_slice-flow-items.result.now in
    let f = c.flow-item.result in
    let l = c.loop-flow in
    let i = l.flow-index in
    let t = c.frame-slots.result in
    let fits =
    next-fits (flow_legs t) (flow_spec f) (map flow_spec (drop i fs)) (map flow_spec (drop (i + 1) fs)) leg_spec (held l.legs) []
    (legs_of t (map flow_spec fs)) (map_next flow_spec fs i f c.loop-flow-test.true c.flow-item.is) l.invariant in
    omega (arith, fits, legs-few t fs, light (goal.at.push_flow-requires-clause-room c).In-loop-flow)
