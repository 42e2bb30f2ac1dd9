use Rattle.std.proofs.Common.{◌≡◌, ◌-◌, ◌/◌, ◌+◌, ◌≤◌, ◌++◌, map, length}
use Rattle.std.specs.List.{range_with_len, flat_map}
use Rattle.reserved.specs.Held.{held}
use Rattle.flow.specs.Flows.{flow_spec}
use Rattle.frame.specs.declared.memory.TheConstants.{LEGS}
use Rattle.frame.specs.Legs.{leg_spec}
use Rattle.legs.specs.Expand.{flow_legs, packet_legs}
use Rattle.legs.proofs.expansion.push_flow.Given as goal

-- with the packets that are left, the legs become what they shall be
abbrev pub invariant-loop-packet : goal.invariant-loop-packet
invariant-loop-packet l =
    let f = flow_spec l.flow in
    let left = flat_map (packet_legs f) (range_with_len l.packet (l.slots / f.period - l.packet)) in
    record {
      ends : map leg_spec (held l.legs) ++ left ≡ map leg_spec (held l.initial.legs) ++ flow_legs l.slots f;
      room : length (held l.legs) + length left ≤ LEGS;
    }
