use Rattle.std.proofs.Common.{sym}
use Rattle.flow.specs.Flows.{flow_spec}
use Rattle.table.specs.Force.{enter}
use Rattle.table.specs.Tables.{flows_in}
use Rattle.table.proofs.Frames.{least_more, common-enter, frame_is}
use Rattle.table.proofs.table.FlowTable.frame_with.Goals as goal

pub returns : goal.returns
returns c =
    let fs = flows_in c.args.self.now in
    let f = flow_spec c.args.flow.now in
    sym (frame_is c.lcm.result (enter f fs)
    (least_more fs (enter f fs) f.period c.frame.result c.lcm.result (λ n. common-enter n f fs)
    c.frame.ensures.least c.lcm.ensures))
