use Rattle.std.proofs.Common.{◌≡◌, ◌+◌, ◌++◌, ◌≤◌, map, length}
use Rattle.std.specs.Slice.Iter.{iter_rest}
use Rattle.reserved.specs.Held.{held}
use Rattle.flow.specs.Flows.{flow_spec}
use Rattle.flow.specs.Views.{devices_in}
use Rattle.frame.specs.declared.memory.TheConstants.{LEGS}
use Rattle.frame.specs.Legs.{leg_spec}
use Rattle.legs.specs.Expand.{legs_from, packet_legs}
use Rattle.legs.proofs.expansion.push_packet.Given as goal

-- with the packet on the routes that are left, the legs become what they shall be
abbrev pub invariant-loop-number : goal.invariant-loop-number
invariant-loop-number l =
    let left = iter_rest l.number-iterator.b in
    let f = flow_spec l.flow in
    record {
      ends : map leg_spec (held l.legs) ++ legs_from f l.packet l.number-iterator.a.start (map devices_in left)
          ≡ map leg_spec (held l.initial.legs) ++ packet_legs f l.packet;
      few : l.number-iterator.a.start + length left ≤ 4;
      room : length (held l.legs) + length left ≤ LEGS;
    }
