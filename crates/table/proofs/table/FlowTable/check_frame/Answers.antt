use Rattle.std.proofs.Common.{◌≡◌, ◌+◌, List, Err, sym, ap, ◌∙◌, arith}
use Rattle.flow.specs.Flows.{FlowSpec, flow_spec}
use Rattle.table.specs.Force.{enter}
use Rattle.table.specs.Frame.{transmissions, transmissions_in}
use Rattle.table.specs.Tables.{flows_in}
use Rattle.table.proofs.Frames.{transmissions-enter}
use Rattle.table.proofs.Vetted.{frame-passed, frame_refused}
use Rattle.table.proofs.table.FlowTable.check_frame.Goals as goal
use Rattle.table.proofs.table.FlowTable.check_frame.Goals.{After-transmissions_by}

module _ (c : After-transmissions_by) where
  -- the flows with the new one
  abbrev all : List FlowSpec
  all = enter (flow_spec c.args.flow.now) (flows_in c.args.self.now)

  -- the load is that of all of them in their frame
  load : c.transmissions_in.result + c.transmissions_by.result ≡ transmissions all
  load =
      let enters = transmissions-enter c.frame_with-slots.result (flow_spec c.args.flow.now) (flows_in c.args.self.now) in
      omega (arith, c.transmissions_in.ensures.value, c.transmissions_by.ensures.value, enters)
      ∙ ap (λ t. transmissions_in t all) c.frame_with-slots.ensures

pub returns-then-load-gt-HEAVIEST : goal.returns-then-load-gt-HEAVIEST
returns-then-load-gt-HEAVIEST c =
    let d = (goal.at.returns-then-load-gt-HEAVIEST c).After-transmissions_by in
    ap Err c.at_flow-then-load-gt-HEAVIEST.ensures
    ∙ sym (frame_refused c.args.flow.now.number (all d) (omega (arith, c.frame_with-slots.ensures)) (omega (arith, load d)))

pub returns : goal.returns
returns c =
    let d = (goal.at.returns c).After-transmissions_by in
    sym (frame-passed c.args.flow.now.number (all d) (omega (arith, c.frame_with-slots.ensures)) (omega (arith, load d)))
