use Rattle.std.proofs.Common.{◌≡◌, ◌≤◌, map, sym, ap, ◌∙◌, subst, arith}
use Rattle.std.proofs.lemmas.Result.{MatchResult-at_ok}
use Rattle.std.proofs.lemmas.Option.{get_or_from_slice_get}
use Rattle.reserved.specs.Held.{held}
use Rattle.flow.specs.Flows.{flow_spec}
use Rattle.table.specs.Force.{leave, rising}
use Rattle.table.specs.Frame.{frame, transmissions}
use Rattle.table.specs.Places.{IsIndexOf}
use Rattle.table.specs.Tables.{flows_in}
use Rattle.table.proofs.Found.{without-index, named-so, goes_back}
use Rattle.table.proofs.Frames.{flows_timed, frame-leave, transmissions-leave}
use Rattle.table.proofs.Order.{rising-leave}
use Rattle.table.proofs.table.FlowTable.remove.Goals as goal
use Rattle.table.proofs.table.FlowTable.remove.Goals.{After-remove}

-- the index that was found
index : (c : After-remove) → IsIndexOf c.args.number (flows_in c.args.self.now) c.unwrap-i.result
index c = MatchResult-at_ok _ _ c.unwrap-i.result c.unwrap-i.ensures c.search.ensures.place

-- the flows that are left
after : (c : After-remove) → map flow_spec (held c.remove.new.self) ≡ leave c.args.number (flows_in c.args.self.now)
after c =
    ap (map flow_spec) c.remove.ensures.left
    ∙ without-index c.args.number (held c.args.self.now.flows) c.unwrap-i.result c.args.self.now.rises (index c)

pub invariant_of-self : goal.invariant_of-self
invariant_of-self c =
    let fs = flows_in c.args.self.now in
    let n = c.args.number in
    let old = c.args.self.now in
    let timed = flows_timed (held old.flows) in
    let short = subst (λ l. frame l ≤ 1024) (sym (after c)) (omega (arith, frame-leave n fs timed, old.short)) in
    let light = subst (λ l. transmissions l ≤ 2048) (sym (after c)) (omega (arith, transmissions-leave n fs timed, old.light)) in
    record {
      rises = ap rising (after c) ∙ rising-leave n fs old.rises;
      short = short;
      light = light;
    }

pub returns : goal.returns
returns c =
    let d = (goal.at.returns c).After-remove in
    let items = held c.args.self.now.flows in
    let n = c.args.number in
    let i = c.unwrap-i.result in
    let up = c.args.self.now.rises in
    let r = c.remove in
    let read = sym (get_or_from_slice_get items i r.result r.result r.ensures.value) in
    record {
      named = named-so n items i up (index d) r.result read;
      after = after d;
      back = goes_back n items i up (index d) r.result read;
    }
