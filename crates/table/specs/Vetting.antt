-- What keeps a flow out of the table: the first rule that is broken, down the list.
use Rattle.std.specs.Prelude.{ℕ, Bool, true, false, not, ◌&&◌, List, length, Some, None, Ok, Err, Option, Result, nat_le, nat_lt}
use Rattle.flow.specs.declared.fault.RouteFault.{RouteFault}
use Rattle.flow.specs.Outcomes.{or_else, unless, and_then}
use Rattle.flow.specs.Reading.{read_routes_of}
use Rattle.flow.specs.Flows.{FlowSpec}
use Rattle.table.specs.declared.fault.PlanRule.{PlanRule}
use Rattle.table.specs.declared.fault.PlanRule.TheVariants.{
  Number,
  InForce,
  NotInForce,
  Full,
  Period,
  Deadline,
  Route,
  Frame,
  Transmissions,
}
use Rattle.table.specs.declared.fault.PlanFault.{PlanFault}
use Rattle.table.specs.Force.{in_force, enter}
use Rattle.table.specs.Frame.{frame, transmissions}

-- flow n breaks the rule
abbrev pub at : ℕ → PlanRule → PlanFault
at n rule = record { flow = Some n; rule = rule }

-- the rule is broken, and no flow is named
abbrev pub at_no_flow : PlanRule → PlanFault
at_no_flow rule = record { flow = None; rule = rule }

-- the fault, where the rule is broken
abbrev pub when : {E : Type 0} → Bool → E → Option E
when true e = Some e
when false e = None

-- low ≤ n ≤ high fails
abbrev pub outside : ℕ → ℕ → ℕ → Bool
outside low high n = not (nat_le low n && nat_le n high)

-- a fault in a route, at flow n
abbrev pub result_at_flow : {A : Type 0} → ℕ → Result A RouteFault → Result A PlanFault
result_at_flow n (Ok x) = Ok x
result_at_flow n (Err e) = Err (at n (Route e))

-- n is no flow's number
abbrev pub number_fault : ℕ → Option PlanFault
number_fault n = when (outside 1 999 n) (at n Number)

-- no place for number n
abbrev pub place_fault : ℕ → List FlowSpec → Option PlanFault
place_fault n fs = or_else (number_fault n) (or_else (when (in_force n fs) (at n InForce)) (when (nat_le 32 (length fs)) (at n Full)))

-- no flow of number n to retire
abbrev pub retire_fault : ℕ → List FlowSpec → Option PlanFault
retire_fault n fs = or_else (number_fault n) (when (not (in_force n fs)) (at n NotInForce))

-- a period or a deadline out of range
abbrev pub time_fault : ℕ → ℕ → ℕ → Option PlanFault
time_fault n p d = or_else (when (outside 1 1024 p) (at n Period)) (when (outside 1 p d) (at n Deadline))

-- flows that do not fit one frame; flow n is the new one
abbrev pub frame_fault : ℕ → List FlowSpec → Option PlanFault
frame_fault n fs =
    or_else (when (nat_lt 1024 (frame fs)) (at n Frame)) (when (nat_lt 2048 (transmissions fs)) (at n Transmissions))

-- the flow that may enter, or what keeps it out
abbrev pub vetted : ℕ → ℕ → ℕ → List ℕ → List FlowSpec → Result FlowSpec PlanFault
vetted n p d bytes fs =
    unless (place_fault n fs)
    (unless (time_fault n p d)
    (and_then (result_at_flow n (read_routes_of bytes)) (λ routes.
    let f : FlowSpec = record { number = n; period = p; deadline = d; routes = routes } in unless (frame_fault n (enter f fs)) (Ok f))))
