-- Every refusal's number, and the flow, route and position that it names, case by case.
use Rattle.std.specs.Prelude.{ℕ, if◌then◌else◌, List, length, Ok, Err, Result, nat_le, unwrap_or}
use Rattle.flow.specs.declared.fault.RouteFault.{RouteFault}
use Rattle.flow.specs.declared.fault.RouteFault.TheVariants.{Shape, Device, Repeat, Gateway, Ends}
use Rattle.table.specs.declared.fault.PlanRule.{PlanRule}
use Rattle.table.specs.declared.fault.PlanRule.TheVariants as rule
use Rattle.answer.specs.declared.refusal.Refusal.{Refusal}
use Rattle.answer.specs.Bytes.{answer_bytes}
use Rattle.console.specs.declared.fault.ConsoleRule.{ConsoleRule}
use Rattle.console.specs.declared.fault.ConsoleRule.TheVariants.{Unreadable, Plan, Memory}
use Rattle.console.specs.declared.fault.ConsoleFault.{ConsoleFault}
use Rattle.console.specs.declared.fault.Granted.{Granted}

-- a refusal by its number, flow, route and position
abbrev pub says : ℕ → ℕ → ℕ → ℕ → Refusal
says number flow route position = record { number = number; flow = flow; route = route; position = position }

-- of a route of flow n
abbrev pub route_refusal_of : ℕ → RouteFault → Refusal
route_refusal_of n (Shape k) = says 7 n k 0
route_refusal_of n (Device k i) = says 8 n k i
route_refusal_of n (Repeat k i) = says 9 n k i
route_refusal_of n (Gateway k) = says 10 n k 0
route_refusal_of n (Ends k i) = says 11 n k i

-- of the plan; n is the flow that is named, and 0 where none is
abbrev pub plan_refusal_of : ℕ → PlanRule → Refusal
plan_refusal_of n rule.Number = says 1 n 0 0
plan_refusal_of n rule.InForce = says 2 n 0 0
plan_refusal_of n rule.NotInForce = says 3 n 0 0
plan_refusal_of n rule.Full = says 4 n 0 0
plan_refusal_of n rule.Period = says 5 n 0 0
plan_refusal_of n rule.Deadline = says 6 n 0 0
plan_refusal_of n (rule.Route f) = route_refusal_of n f
plan_refusal_of n rule.Frame = says 12 n 0 0
plan_refusal_of n rule.Transmissions = says 13 n 0 0
plan_refusal_of n rule.Channels = says 14 n 0 0
plan_refusal_of n rule.Changes = says 15 n 0 0
plan_refusal_of n rule.Nothing = says 16 n 0 0

-- of the console: the answer's memory is the sixth that can be too short
abbrev pub refusal : ConsoleRule → Refusal
refusal (Plan f) = plan_refusal_of (unwrap_or f.flow 0) f.rule
refusal Memory = says 21 0 0 6
refusal Unreadable = says 22 0 0 0

-- the bytes of the reply to a line
abbrev pub reply_bytes : Result Granted ConsoleFault → List ℕ
reply_bytes (Ok g) = answer_bytes g.line (Ok tt)
reply_bytes (Err f) = answer_bytes f.line (Err (refusal f.rule))

-- the line that a reply is for
abbrev pub line_of : Result Granted ConsoleFault → ℕ
line_of (Ok g) = g.line
line_of (Err f) = f.line

-- the number of bytes written, or the refusal where they do not fit into the memory
abbrev pub length_of : ℕ → List ℕ → List ℕ → Result ℕ ConsoleFault
length_of line bytes room =
    if nat_le (length bytes) (length room) then Ok (length bytes) else Err (record { line = line; rule = Memory })
