use Rattle.std.proofs.Common.{◌≡◌, ◌*◌, ◌≤◌, map, take}
use Rattle.flow.specs.Flows.{flow_spec}
use Rattle.table.specs.Frame.{transmissions_in}
use Rattle.table.proofs.table.FlowTable.transmissions_in.Given as goal

abbrev pub invariant-loop-flow : goal.invariant-loop-flow
invariant-loop-flow l =
    (l.total ≡ transmissions_in l.slots (map flow_spec (take l.flow-index l.flow-items))) × (l.total ≤ 24576 * l.flow-index)
