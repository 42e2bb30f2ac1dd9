use Rattle.std.proofs.Common.{◌≡◌, ◌-◌, length}
use Rattle.flow.specs.Flows.{routes_in}
use Rattle.flow.specs.Reading.{read_more, read_routes_of}
use Rattle.flow.proofs.routes.Routes.read_all.Given as goal

-- the routes so far and those in the rest are the routes of the whole
abbrev pub invariant-loop-rest : goal.invariant-loop-rest
invariant-loop-rest l = read_more (3 - l.routes.count) (routes_in l.routes) l.rest ≡ read_routes_of l.bytes

abbrev pub decreases-loop-rest : goal.decreases-loop-rest
decreases-loop-rest l = length l.rest
