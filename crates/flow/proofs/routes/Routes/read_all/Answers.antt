use Rattle.std.proofs.Common.{◌+◌, ◌-◌, length, sym, ◌∙◌, arith}
use Rattle.std.proofs.lemmas.Result.{err_from_is_err_and}
use Rattle.flow.specs.Flows.{routes_in}
use Rattle.flow.specs.Views.{devices_in}
use Rattle.flow.proofs.Many.{next-within, agree_more, more-end, more_refused, begins, goes_on}
use Rattle.flow.proofs.routes.Routes.read_all.Goals as goal

pub loop-rest-init : goal.loop-rest-init
loop-rest-init c =
    begins c.args.bytes.now c.as_slice.result.now c.in_ok-first.first c.one-routes.result c.as_slice.ensures.value
    c.in_ok-first.ensures c.one-routes.ensures.count c.one-routes.ensures.value

pub returns-in_err-route : goal.returns-in_err-route
returns-in_err-route c =
    let p = err_from_is_err_and c.from_residual-in_err-route.result c.from_residual-in_err-route.ensures.1 in
    let rs = c.loop-rest.routes in
    rw (p.1, p.2)
    (sym (sym c.loop-rest.invariant
    ∙ more_refused (routes_in rs) c.loop-rest.rest.now (sym c.loop-rest-test.ensures) (3 - rs.count) (3 - (rs.count + 1))
    c.in_err-route.field-0.0 (omega arith) (sym c.in_err-route.ensures)))

pub with-routes-requires-clause-ends : goal.with-routes-requires-clause-ends
with-routes-requires-clause-ends c =
    let sofar = routes_in c.loop-rest.routes in
    let ds = devices_in c.in_ok-route.route in
    let w = next-within sofar c.loop-rest.rest.now ds (sym c.in_ok-route.ensures) in
    agree_more (length sofar + 1) sofar ds c.loop-rest.routes.ends w.2

pub loop-rest-preserved : goal.loop-rest-preserved
loop-rest-preserved c =
    goes_on c.loop-rest.rest.now c.as_slice-in-loop-rest.result.now c.in_ok-route.route c.loop-rest.routes
    c.with-routes.result c.as_slice-in-loop-rest.ensures.value
    (sym c.loop-rest-test.ensures) (omega arith)
    c.in_ok-route.ensures c.with-routes.ensures.count c.with-routes.ensures.value
    ∙ c.loop-rest.invariant

pub returns : goal.returns
returns c =
    let rs = c.loop-rest.routes in
    let all = more-end (3 - rs.count) (routes_in rs) c.loop-rest.rest.now (sym c.loop-rest-test.ensures) in
    sym (sym c.loop-rest.invariant ∙ all)
