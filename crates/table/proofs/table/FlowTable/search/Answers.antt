use Rattle.std.proofs.Common.{◌≡◌, map, ap, ◌∙◌, subst, rules}
use Rattle.std.specs.Result.{MatchResult}
use Rattle.std.proofs.lemmas.List.Sorted.{answers_always}
use Rattle.flow.specs.declared.traffic.Flow.{Flow}
use Rattle.flow.specs.Flows.{flow_spec}
use Rattle.table.specs.Force.{rising}
use Rattle.table.specs.Places.{IsIndexOf, IsPlaceOf}
use Rattle.table.specs.Tables.{flows_in}
use Rattle.table.proofs.Found.{searched_flows, found-held}
use Rattle.table.proofs.table.FlowTable.search.Goals as goal

pub returns : goal.returns
returns c =
    let flows = c.as_slice.result.now in
    let fs = flows_in c.args.self.now in
    let n = c.args.number in
    let b = c.binary_search_by_key in
    let is : map flow_spec flows ≡ fs = c.as_slice.ensures.value in
    let found = b.ensures.position (λ (f : Flow). f.number) (answers_always _ _ _ (λ f a r g h. search rules)) in
    let place = subst (λ l. MatchResult b.result (IsIndexOf n l) (IsPlaceOf n l)) is
    (searched_flows n flows b.result (ap rising is ∙ c.args.self.now.rises) b.ensures.bound found) in
    record { held = found-held n fs b.result c.args.self.now.rises place; place = place }
