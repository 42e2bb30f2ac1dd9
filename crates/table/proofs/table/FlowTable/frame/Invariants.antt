use Rattle.std.proofs.Common.{map, take}
use Rattle.flow.specs.Flows.{flow_spec}
use Rattle.table.specs.Frame.{LeastCommonMultiple}
use Rattle.table.proofs.table.FlowTable.frame.Given as goal

abbrev pub invariant-loop-flow : goal.invariant-loop-flow
invariant-loop-flow l = LeastCommonMultiple l.slots (map flow_spec (take l.flow-index l.flow-items))
