-- Routes from bytes: for each route its number of devices, then the devices.
use Rattle.std.specs.Prelude.{ℕ, zero, suc, ◌+◌, Bool, cond, ◌&&◌, List, [], ◌∷◌, ◌++◌, length, take, drop, Some, None, Ok, Err, Option, Result, ◌==◌, nat_le, nat_lt, slice_index}
use Rattle.std.specs.Option.{option_map}
use Rattle.flow.specs.declared.fault.RouteFault.{RouteFault}
use Rattle.flow.specs.declared.fault.RouteFault.TheVariants.{Shape, Device, Repeat, Gateway, Ends}
use Rattle.flow.specs.Outcomes.{or_else, unless, and_then}
use Rattle.flow.specs.Rules.{first_unknown_of, first_repeat_of, has_gateway_in, first_of, last_of}

-- the number of devices that the route at the front has
abbrev pub count : List ℕ → ℕ
count bytes = slice_index bytes 0

-- a route of 2 to 9 devices stands whole at the front
abbrev pub shaped : List ℕ → Bool
shaped bytes = nat_le 2 (count bytes) && (nat_le (count bytes) 9 && nat_lt (count bytes) (length bytes))

-- its devices
abbrev pub front : List ℕ → List ℕ
front bytes = take (count bytes) (drop 1 bytes)

-- the bytes behind it
abbrev pub behind : List ℕ → List ℕ
behind bytes = drop (count bytes + 1) bytes

-- the first rule that the devices of route k break, with its position
abbrev pub route_fault : ℕ → List ℕ → Option RouteFault
route_fault k ds =
    or_else (option_map (λ i. Device k (i + 1)) (first_unknown_of ds))
    (or_else (option_map (λ i. Repeat k (i + 1)) (first_repeat_of ds)) (cond (has_gateway_in ds) None (Some (Gateway k))))

-- the ends of route k against those of the first route: the first device is looked at first
abbrev pub ends_fault : ℕ → List ℕ → List ℕ → Option RouteFault
ends_fault k one ds =
    cond (first_of one == first_of ds) (cond (last_of one == last_of ds) None (Some (Ends k (length ds)))) (Some (Ends k 1))

-- route k, by itself
abbrev pub read_route_of : ℕ → List ℕ → Result (List ℕ) RouteFault
read_route_of k bytes = cond (shaped bytes) (unless (route_fault k (front bytes)) (Ok (front bytes))) (Err (Shape k))

-- the ends of route k against those of the first of the routes before it
abbrev pub ends_after : ℕ → List (List ℕ) → List ℕ → Option RouteFault
ends_after k [] ds = None
ends_after k (one ∷ more) ds = ends_fault k one ds

-- the route at the front of the bytes, which comes next
abbrev pub read_next : List (List ℕ) → List ℕ → Result (List ℕ) RouteFault
read_next sofar bytes =
    let k = length sofar + 1 in and_then (read_route_of k bytes) (λ ds. unless (ends_after k sofar ds) (Ok ds))

-- the routes so far and those in the bytes, of which there may be `left` more
abbrev pub read_more : ℕ → List (List ℕ) → List ℕ → Result (List (List ℕ)) RouteFault
read_more zero sofar bytes = cond (length bytes == 0) (Ok sofar) (Err (Shape (length sofar + 1)))
read_more (suc left) sofar bytes =
    cond (length bytes == 0) (Ok sofar)
    (and_then (read_next sofar bytes) (λ ds. read_more left (sofar ++ ds ∷ []) (behind bytes)))

-- one to three routes: a first one has to be there
abbrev pub read_routes_of : List ℕ → Result (List (List ℕ)) RouteFault
read_routes_of bytes = and_then (read_next [] bytes) (λ ds. read_more 2 (ds ∷ []) (behind bytes))
