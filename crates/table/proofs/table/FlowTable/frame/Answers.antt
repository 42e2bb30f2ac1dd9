use Rattle.std.proofs.Common.{◌≤◌, ◌+◌, map, take, sym, ap, ◌∙◌, subst, le_trans, arith}
use Rattle.std.proofs.lemmas.List.{take_all}
use Rattle.flow.specs.Flows.{flow_spec}
use Rattle.table.specs.Frame.{common, frame, LeastCommonMultiple}
use Rattle.table.specs.Tables.{flows_in}
use Rattle.table.proofs.Frames.{least-take, least_more, flows-more, common_push, frame_is}
use Rattle.table.proofs.table.FlowTable.frame.Goals as goal

pub lcm-slots-requires-clause-few : goal.lcm-slots-requires-clause-few
lcm-slots-requires-clause-few c =
    let l = c.loop-flow in
    let s = c.as_slice-flow-items in
    let short = subst (λ fs. frame fs ≤ 1024) (sym s.ensures.value) c.args.self.now.short in
    (le_trans (least-take l.slots l.flow-index s.result.now l.invariant) short, c.flow-item.result.regular)

pub loop-flow-preserved : goal.loop-flow-preserved
loop-flow-preserved c =
    let fs = c.as_slice-flow-items.result.now in
    let i = c.loop-flow.flow-index in
    let f = c.flow-item.result in
    let front = map flow_spec (take i fs) in
    least_more front (map flow_spec (take (i + 1) fs)) f.period c.loop-flow.slots c.lcm-slots.result
    (λ n. ap (common n) (flows-more fs i f c.loop-flow-test.true c.flow-item.is) ∙ common_push n (flow_spec f) front)
    c.loop-flow.invariant c.lcm-slots.ensures

pub returns : goal.returns
returns c =
    let l = c.loop-flow in
    let s = c.as_slice-flow-items in
    let all = ap (map flow_spec) (take_all l.flow-index s.result.now c.loop-flow-test.false) ∙ s.ensures.value in
    let least = subst (LeastCommonMultiple l.slots) all l.invariant in
    let is = frame_is l.slots (flows_in c.args.self.now) least in
    record { value = sym is; least = least; bound = omega (arith, is, c.args.self.now.short) }
