-- Flows as the rules see them: numbers and lists of devices.
use Rattle.std.specs.Prelude.{ℕ, ◌-◌, List, map, length, take, sum_by}
use Rattle.flow.specs.declared.routes.Routes.{Routes}
use Rattle.flow.specs.declared.traffic.Flow.{Flow}
use Rattle.flow.specs.Views.{devices_in}

-- the routes of a flow, each by its devices
abbrev pub routes_in : Routes → List (List ℕ)
routes_in rs = map devices_in (take rs.count rs.list)

-- the hops of all routes: a hop goes from each device to the next
abbrev pub hops_of : List (List ℕ) → ℕ
hops_of routes = sum_by (λ ds. length ds - 1) routes

-- a flow's number, period, deadline and routes
pub record FlowSpec : Type 0 where
  pub number : ℕ
  pub period : ℕ
  pub deadline : ℕ
  pub routes : List (List ℕ)

-- what the rules see of a flow
abbrev pub flow_spec : Flow → FlowSpec
flow_spec f = record { number = f.number; period = f.period; deadline = f.deadline; routes = routes_in f.routes }
