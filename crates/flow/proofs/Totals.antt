-- How many hops a flow's routes have.
use Rattle.std.proofs.Common.{◌-◌, ◌*◌, ◌≤◌, List, [], ◌∷◌, map, length, take, arith}
use Rattle.std.proofs.lemmas.List.{length-take-le}
use Rattle.std.proofs.lemmas.List.Sums.{sum_by-cons}
use Rattle.flow.specs.declared.route.Route.{Route}
use Rattle.flow.specs.declared.routes.Routes.{Routes}
use Rattle.flow.specs.Views.{devices_in}
use Rattle.flow.specs.Flows.{routes_in, hops_of}

-- a route has 8 hops at most
hops-le : (rs : List Route) → hops_of (map devices_in rs) ≤ 8 * length rs
hops-le [] = omega arith
hops-le (r ∷ rs) = omega (arith, sum_by-cons (λ ds. length ds - 1) (devices_in r) (map devices_in rs), hops-le rs, r.most)

-- so the routes of a flow have 24
pub few_hops : (rs : Routes) → hops_of (routes_in rs) ≤ 24
few_hops rs = omega (arith, hops-le (take rs.count rs.list), length-take-le rs.count rs.list (omega (arith, rs.few, rs.places)), rs.few)
