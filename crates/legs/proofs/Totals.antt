-- The legs of flows: how many there are, how many hops they have, and when they are due.
use Rattle.std.proofs.Common.{◌≡◌, ℕ, zero, suc, ◌+◌, ◌-◌, ◌*◌, ◌/◌, ◌<◌, ◌≤◌, true, leb, List, [], ◌∷◌, ◌++◌, map, length, take, sym, refl, ap, ◌∙◌, le_trans, add-mul, mul-le-mul_left, one-mul, zero-mul, mul-one, mul-add, arith, length-append}
use native.Mathlib.Nat.{mul-div-le}
use Rattle.std.specs.List.{range_with_len, flat_map}
use Rattle.std.proofs.lemmas.List.Sums.{sum_by-append, sum_by-cons}
use Rattle.std.proofs.lemmas.Bool.{and_from, and_parts, le-leb}
use Rattle.reserved.specs.Held.{held}
use Rattle.flow.specs.declared.route.Route.{Route}
use Rattle.flow.specs.declared.traffic.Flow.{Flow}
use Rattle.flow.specs.Flows.{FlowSpec, flow_spec, hops_of}
use Rattle.flow.specs.Views.{devices_in}
use Rattle.table.specs.declared.table.FlowTable.{FlowTable}
use Rattle.table.specs.Frame.{frame, transmissions_in}
use Rattle.table.specs.Tables.{flows_in}
use Rattle.table.proofs.Frames.{share}
use Rattle.frame.specs.Legs.{LegSpec, all_due_by, hop_total}
use Rattle.legs.specs.Expand.{hops_along_route, leg_of_packet, legs_from, packet_legs, flow_legs, legs_of}
use Rattle.legs.proofs.Walks.{legs_length}

-- the hops of one leg
abbrev leg_hops : LegSpec → ℕ
leg_hops l = length l.hops

-- a route has a hop less than devices
hops-length : (ds : List ℕ) → length (hops_along_route ds) ≡ length ds - 1
hops-length [] = refl
hops-length (a ∷ []) = refl
hops-length (a ∷ b ∷ ds) = omega (arith, hops-length (b ∷ ds))

-- a packet has the hops of its routes
packet_total : (f : FlowSpec) (j k : ℕ) (rs : List (List ℕ)) → hop_total (legs_from f j k rs) ≡ hops_of rs
packet_total f j k [] = refl
packet_total f j k (ds ∷ rs) =
    sum_by-cons leg_hops (leg_of_packet f j k ds) (legs_from f j (k + 1) rs)
    ∙ ap (λ n. n + hop_total (legs_from f j (k + 1) rs)) (hops-length ds)
    ∙ ap (λ n. length ds - 1 + n) (packet_total f j (k + 1) rs)
    ∙ sym (sum_by-cons (λ es. length es - 1) ds rs)

-- n packets have them n times
packets_total : (f : FlowSpec) (a n : ℕ) → hop_total (flat_map (packet_legs f) (range_with_len a n)) ≡ n * hops_of f.routes
packets_total f a zero = sym (zero-mul (hops_of f.routes))
packets_total f a (suc n) =
    let rest = flat_map (packet_legs f) (range_with_len (a + 1) n) in
    omega (
      arith,
      sum_by-append leg_hops (packet_legs f a) rest,
      packet_total f a 1 f.routes,
      packets_total f (a + 1) n,
      add-mul n 1 (hops_of f.routes),
      one-mul (hops_of f.routes),
    )

-- the hops of all legs are the transmissions
pub legs-total : (t : ℕ) (flows : List FlowSpec) → hop_total (legs_of t flows) ≡ transmissions_in t flows
legs-total t [] = refl
legs-total t (f ∷ fs) =
    omega (
      arith,
      sum_by-append leg_hops (flow_legs t f) (legs_of t fs),
      packets_total f 0 (t / f.period),
      legs-total t fs,
      sum_by-cons (share t) f fs,
    )

-- every route of a flow has a hop
routes-few : (rs : List Route) → length (map devices_in rs) ≤ hops_of (map devices_in rs)
routes-few [] = omega arith
routes-few (r ∷ rs) =
    omega (arith, sum_by-cons (λ ds. length ds - 1) (devices_in r) (map devices_in rs), routes-few rs, r.least)

-- so packets have at least as many hops as legs
packets_few : (f : Flow) (a n : ℕ) → (
    let legs = flat_map (packet_legs (flow_spec f)) (range_with_len a n) in length legs ≤ hop_total legs
    )
packets_few f a zero = omega arith
packets_few f a (suc n) =
    let g = packet_legs (flow_spec f) in
    let rest = flat_map g (range_with_len (a + 1) n) in
    omega (
      arith,
      length-append (g a) rest,
      sum_by-append leg_hops (g a) rest,
      packets_few f (a + 1) n,
      legs_length (flow_spec f) a 1 (flow_spec f).routes,
      packet_total (flow_spec f) a 1 (flow_spec f).routes,
      routes-few (take f.routes.count f.routes.list),
    )

-- there are at most as many legs as transmissions
pub legs-few : (t : ℕ) (flows : List Flow) → length (legs_of t (map flow_spec flows)) ≤ transmissions_in t (map flow_spec flows)
legs-few t [] = omega arith
legs-few t (f ∷ fs) =
    let s = flow_spec f in
    omega (
      arith,
      length-append (flow_legs t s) (legs_of t (map flow_spec fs)),
      packets_few f 0 (t / f.period),
      packets_total s 0 (t / f.period),
      sum_by-cons (share t) s (map flow_spec fs),
      legs-few t fs,
    )

-- what comes together is due when both parts are
due-append : (t : ℕ) (xs ys : List LegSpec) → all_due_by t xs ≡ true → all_due_by t ys ≡ true → all_due_by t (xs ++ ys) ≡ true
due-append t [] ys a b = b
due-append t (x ∷ xs) ys a b =
    let parts = and_parts (leb x.due t) (all_due_by t xs) a in
    and_from (leb x.due t) (all_due_by t (xs ++ ys)) parts.0 (due-append t xs ys parts.1 b)

-- the packet released j periods after the first slot is due within its period
pub within-period : (p d j : ℕ) → d ≤ p → p * j + 1 + d - 1 ≤ p * (j + 1)
within-period p d j h = omega (arith, mul-add p j 1, mul-one p)

-- so all its legs are due by a slot that no such period passes
packet_due : (t : ℕ) (f : FlowSpec) (j k : ℕ) (rs : List (List ℕ)) → f.deadline ≤ f.period → f.period * (j + 1) ≤ t →
    all_due_by t (legs_from f j k rs) ≡ true
packet_due t f j k [] prompt early = refl
packet_due t f j k (ds ∷ rs) prompt early =
    let leg = leg_of_packet f j k ds in
    and_from (leb leg.due t) (all_due_by t (legs_from f j (k + 1) rs))
    (le-leb leg.due t (omega (arith, within-period f.period f.deadline j prompt)))
    (packet_due t f j (k + 1) rs prompt early)

-- the next packet of t slots ends its period within them
pub turn_ends : (t p j : ℕ) → j < t / p → p * (j + 1) ≤ t
turn_ends t p j h = le_trans (mul-le-mul_left p (omega arith)) (mul-div-le t p)

-- all packets of a flow are due within t slots
packets_due : (t : ℕ) (f : FlowSpec) (a n : ℕ) → f.deadline ≤ f.period → a + n ≤ t / f.period →
    all_due_by t (flat_map (packet_legs f) (range_with_len a n)) ≡ true
packets_due t f a zero prompt h = refl
packets_due t f a (suc n) prompt h =
    due-append t (packet_legs f a) (flat_map (packet_legs f) (range_with_len (a + 1) n))
    (packet_due t f a 1 f.routes prompt (turn_ends t f.period a (omega arith)))
    (packets_due t f (a + 1) n prompt (omega arith))

-- all legs are due within the slots that they are made for
pub legs-due : (t : ℕ) (flows : List Flow) → all_due_by t (legs_of t (map flow_spec flows)) ≡ true
legs-due t [] = refl
legs-due t (f ∷ fs) =
    due-append t (flow_legs t (flow_spec f)) (legs_of t (map flow_spec fs))
    (packets_due t (flow_spec f) 0 (t / f.period) f.prompt (omega arith)) (legs-due t fs)

-- the legs of a table's flows in their frame: due within it, with at most 2,048 hops
pub table_legs : (table : FlowTable) (t : ℕ) (legs : List LegSpec) →
    t ≡ frame (flows_in table) → legs ≡ legs_of (frame (flows_in table)) (flows_in table) →
    (all_due_by t legs ≡ true) × (hop_total legs ≤ 2048)
table_legs table t legs slots is =
    let fs = flows_in table in
    let own = held table.flows in (
      ap (λ n. all_due_by n legs) slots ∙ ap (all_due_by (frame fs)) is ∙ legs-due (frame fs) own,
      omega (arith, ap hop_total is, legs-total (frame fs) fs, table.light),
    )
