-- Tables as the rules see them.
use Rattle.std.specs.Prelude.{List, map}
use Rattle.reserved.specs.Held.{held}
use Rattle.flow.specs.Flows.{FlowSpec, flow_spec}
use Rattle.table.specs.declared.table.FlowTable.{FlowTable}

-- the flows that a table holds, in their order
abbrev pub flows_in : FlowTable → List FlowSpec
flows_in t = map flow_spec (held t.flows)
