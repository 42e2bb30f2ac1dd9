use Rattle.std.proofs.Common.{◌≡◌, ◌++◌, map, drop}
use Rattle.std.specs.List.{flat_map}
use Rattle.reserved.specs.Held.{held}
use Rattle.flow.specs.Flows.{flow_spec}
use Rattle.frame.specs.Legs.{leg_spec}
use Rattle.legs.specs.Expand.{flow_legs, legs_of}
use Rattle.legs.proofs.expansion.expand.Given as goal

-- with the legs of the flows that are left, the legs become those of all
abbrev pub invariant-loop-flow : goal.invariant-loop-flow
invariant-loop-flow l =
    map leg_spec (held l.legs) ++ flat_map (flow_legs l.slots) (map flow_spec (drop l.flow-index l.flow-items))
    ≡ legs_of l.slots (map flow_spec l.flow-items)
