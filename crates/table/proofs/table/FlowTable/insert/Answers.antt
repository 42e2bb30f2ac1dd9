use Rattle.std.proofs.Common.{◌≡◌, ◌≤◌, map, sym, ap, ◌∙◌, subst}
use Rattle.std.proofs.lemmas.Result.{MatchResult-at_err}
use Rattle.reserved.specs.Held.{held}
use Rattle.flow.specs.Flows.{flow_spec}
use Rattle.table.specs.Force.{enter, rising}
use Rattle.table.specs.Frame.{frame, transmissions}
use Rattle.table.specs.Places.{IsPlaceOf}
use Rattle.table.specs.Tables.{flows_in}
use Rattle.table.proofs.Found.{placed_at, map_inserted}
use Rattle.table.proofs.Order.{rising-enter}
use Rattle.table.proofs.table.FlowTable.insert.Goals as goal
use Rattle.table.proofs.table.FlowTable.insert.Goals.{After-insert}

module _ (c : After-insert) where
  -- the flow's place
  place : IsPlaceOf c.args.flow.number (flows_in c.args.self.now) c.unwrap_err-i.result
  place = MatchResult-at_err _ _ c.unwrap_err-i.result c.unwrap_err-i.ensures c.search.ensures.place

  -- the flows that are in force then
  after : map flow_spec (held c.insert.new.self) ≡ enter (flow_spec c.args.flow) (flows_in c.args.self.now)
  after =
      let fs = flows_in c.args.self.now in
      let f = flow_spec c.args.flow in
      ap (map flow_spec) c.insert.ensures.value
      ∙ map_inserted (held c.args.self.now.flows) c.unwrap_err-i.result c.args.flow
      ∙ sym (placed_at f fs c.unwrap_err-i.result place)

pub invariant_of-self : goal.invariant_of-self
invariant_of-self c =
    let f = flow_spec c.args.flow in
    let fs = flows_in c.args.self.now in
    let short = subst (λ l. frame l ≤ 1024) (sym (after c)) c.requires.short in
    let light = subst (λ l. transmissions l ≤ 2048) (sym (after c)) c.requires.light in
    record {
      rises = ap rising (after c) ∙ rising-enter f fs c.requires.new c.args.self.now.rises;
      short = short;
      light = light;
    }

pub returns : goal.returns
returns c = after (goal.at.returns c).After-insert
