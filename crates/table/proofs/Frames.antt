-- The frame that flows share is the least common multiple of their periods.
use Rattle.std.proofs.Common.{◌≡◌, ℕ, zero, suc, ◌+◌, ◌*◌, ◌/◌, ◌%◌, ◌<◌, ◌≤◌, Bool, true, false, ◌&&◌, eqb, ltb, List, [], ◌∷◌, ◌++◌, map, length, get_or, take, Some, unwrap_or, sym, refl, ap, ◌∙◌, subst, ⊎_elim, le_trans, mul-le-mul_right, mod-lt, le_antisymm, mul-pos, le-div_iff_mul-le, div-mul-le_self, arith}
use Prim.Native.Nat.{◌∣◌}
use native.Mathlib.Nat.{dvd_trans, dvd-mul_left, mod-eq-zero_of_dvd, dvd_of_mod-eq-zero, mod-mod_of_dvd, mul-mod_right, pos_of_dvd_of_pos}
use Rattle.std.specs.List.{AllByRecursion as All}
use Rattle.std.proofs.lemmas.List.{map_more, take-map}
use Rattle.std.proofs.lemmas.List.Recursion.{and_push}
use Rattle.std.proofs.lemmas.List.Sums.{sum_by-cons}
use Rattle.std.proofs.Math.Bool.{and_comm}
use Rattle.std.proofs.lemmas.Bool.{both_ways, cases_Bool, cases_eq, cond-true, cond-false, cond_both, and_parts, and_from, eq-eqb, eqb-true}
use Rattle.flow.specs.declared.traffic.Flow.{Flow}
use Rattle.flow.specs.First.{first_from}
use Rattle.flow.specs.Flows.{FlowSpec, flow_spec, hops_of}
use Rattle.table.specs.Force.{enter, leave}
use Rattle.table.specs.Frame.{common, product, frame, transmissions_in, transmissions, LeastCommonMultiple, LeastMultiple}

-- no period is 0
abbrev pub Timed : List FlowSpec → Type 0
Timed fs = All (λ f. 1 ≤ f.period) fs

-- the search from k on over n numbers ends at the first that passes
abbrev Found : (ℕ → Bool) → ℕ → ℕ → Type 0
Found p k n =
    (t : ℕ) × (first_from p k n ≡ Some t) × (k ≤ t) × (p t ≡ true) × ((m : ℕ) → k ≤ m → p m ≡ true → t ≤ m)

-- a number that passes is above one that fails
past : (p : ℕ → Bool) (k m : ℕ) → p k ≡ false → k ≤ m → p m ≡ true → k + 1 ≤ m
past p k m fails low pass =
    let ne : k ≡ m → ⊥ = λ e. both_ways (p m) (ap p (sym e) ∙ fails) pass in omega arith

-- it finds one where some number passes
found : (p : ℕ → Bool) (n k i : ℕ) → k ≤ i → i < k + n → p i ≡ true → Found p k n
found p zero k i low high pass = absurd (omega arith)
found p (suc n) k i low high pass =
    ⊎_elim
    (λ (e : p k ≡ true). (k, cond-true (p k) (Some k) (first_from p (k + 1) n) e, omega arith, e, λ m from _. from))
    (λ (e : p k ≡ false).
    let rest = found p n (k + 1) i (past p k i e low pass) (omega arith) pass in (
      rest.0,
      cond-false (p k) (Some k) (first_from p (k + 1) n) e ∙ rest.1,
      omega (arith, rest.2),
      rest.3,
      λ m from h. rest.4 m (past p k m e from h) h,
    ))
    (cases_Bool (p k))

-- a multiple of a common multiple is one
pub common_multiple : (n m : ℕ) (fs : List FlowSpec) → n ∣ m → common n fs ≡ true → common m fs ≡ true
common_multiple n m [] d c = refl
common_multiple n m (f ∷ fs) d c =
    let p = f.period in
    let parts = and_parts (eqb (n % p) 0) (common n fs) c in
    let whole = dvd_trans p (dvd_of_mod-eq-zero p (eqb-true (n % p) 0 parts.0)) d in
    and_from (eqb (m % p) 0) (common m fs) (eq-eqb (m % p) 0 (mod-eq-zero_of_dvd p whole)) (common_multiple n m fs d parts.1)

-- the rest of one common multiple by another is one
common-rest : (m t : ℕ) (fs : List FlowSpec) → common m fs ≡ true → common t fs ≡ true → common (m % t) fs ≡ true
common-rest m t [] a b = refl
common-rest m t (f ∷ fs) a b =
    let p = f.period in
    let of-m = and_parts (eqb (m % p) 0) (common m fs) a in
    let of-t = and_parts (eqb (t % p) 0) (common t fs) b in
    let same = mod-mod_of_dvd p m (dvd_of_mod-eq-zero p (eqb-true (t % p) 0 of-t.0)) in
    and_from (eqb (m % t % p) 0) (common (m % t) fs)
    (eq-eqb (m % t % p) 0 (same ∙ eqb-true (m % p) 0 of-m.0)) (common-rest m t fs of-m.1 of-t.1)

-- the least common multiple divides every common multiple
pub least_divides : (t : ℕ) (fs : List FlowSpec) → LeastCommonMultiple t fs → (m : ℕ) → common m fs ≡ true → t ∣ m
least_divides t fs is m c =
    dvd_of_mod-eq-zero t
    (⊎_elim
    (λ (e : m % t ≡ 0). e)
    (λ (ne : m % t ≡ 0 → ⊥).
    let low = is.least (m % t) (omega arith) (common-rest m t fs c is.divided) in
    let high = mod-lt m is.some in
    absurd (omega arith))
    (cases_eq (m % t) 0))

-- what has a common multiple from 1 on has no period 0
divided_timed : (n : ℕ) (fs : List FlowSpec) → 1 ≤ n → common n fs ≡ true → Timed fs
divided_timed n [] some c = tt
divided_timed n (f ∷ fs) some c =
    let parts = and_parts (eqb (n % f.period) 0) (common n fs) c in
    (pos_of_dvd_of_pos (dvd_of_mod-eq-zero f.period (eqb-true (n % f.period) 0 parts.0)) some, divided_timed n fs some parts.1)

-- the product of the periods is a common multiple
product-common : (fs : List FlowSpec) → Timed fs → (1 ≤ product fs) × (common (product fs) fs ≡ true)
product-common [] timed = (omega arith, refl)
product-common (f ∷ fs) timed =
    let p = f.period in
    let rest = product-common fs timed.1 in (
      mul-pos timed.0 rest.0,
      and_from (eqb (p * product fs % p) 0) (common (p * product fs) fs)
          (eq-eqb (p * product fs % p) 0 (mul-mod_right p (product fs)))
          (common_multiple (product fs) (p * product fs) fs (dvd-mul_left (product fs) p) rest.1),
    )

-- the frame is the least common multiple of the periods
pub frame-least : (fs : List FlowSpec) → Timed fs → LeastCommonMultiple (frame fs) fs
frame-least fs timed =
    let all = product-common fs timed in
    let hit = found (λ n. common n fs) (product fs) 1 (product fs) all.0 (omega arith) all.1 in
    subst (λ t. LeastCommonMultiple t fs) (sym (ap (λ o. unwrap_or o 0) hit.1))
    (record { some = hit.2; divided = hit.3; least = hit.4 })

-- the least common multiple of the periods is the frame
pub frame_is : (t : ℕ) (fs : List FlowSpec) → LeastCommonMultiple t fs → frame fs ≡ t
frame_is t fs is =
    let own = frame-least fs (divided_timed t fs is.some is.divided) in
    le_antisymm (own.least t is.some is.divided) (is.least (frame fs) own.some own.divided)

-- with one more period, the least common multiple is that of the old one and the period
pub least_more : (fs more : List FlowSpec) (p t r : ℕ) → ((n : ℕ) → common n more ≡ (eqb (n % p) 0 && common n fs)) →
    LeastCommonMultiple t fs → LeastMultiple t p r → LeastCommonMultiple r more
least_more fs more p t r splits is joins =
    record {
      some = joins.some;
      divided =
          splits r
          ∙ and_from (eqb (r % p) 0) (common r fs) (eq-eqb (r % p) 0 joins.right)
          (common_multiple t r fs (dvd_of_mod-eq-zero t joins.left) is.divided);
      least = λ m from c.
          let parts = and_parts (eqb (m % p) 0) (common m fs) (sym (splits m) ∙ c) in
          joins.least m from (mod-eq-zero_of_dvd t (least_divides t fs is m parts.1)) (eqb-true (m % p) 0 parts.0);
    }

-- the order of tests does not matter
and_swap : (a b c : Bool) → (a && (b && c)) ≡ (b && (a && c))
and_swap true b c = refl
and_swap false true c = refl
and_swap false false c = refl

-- a common multiple with one more flow at the end: its period divides it too
pub common_push : (n : ℕ) (f : FlowSpec) (fs : List FlowSpec) → common n (fs ++ f ∷ []) ≡ (eqb (n % f.period) 0 && common n fs)
common_push n f fs =
    and_push (common n) (λ g. eqb (n % g.period) 0) refl (λ g gs. refl) fs f ∙ and_comm (common n fs) (eqb (n % f.period) 0)

-- with one more flow at its place
pub common-enter : (n : ℕ) (f : FlowSpec) (fs : List FlowSpec) → common n (enter f fs) ≡ (eqb (n % f.period) 0 && common n fs)
common-enter n f [] = refl
common-enter n f (g ∷ gs) =
    cond_both (ltb g.number f.number) (g ∷ enter f gs) (f ∷ g ∷ gs)
    (λ l. common n l ≡ (eqb (n % f.period) 0 && common n (g ∷ gs)))
    (λ _. ap (λ b. eqb (n % g.period) 0 && b) (common-enter n f gs)
    ∙ and_swap (eqb (n % g.period) 0) (eqb (n % f.period) 0) (common n gs))
    (λ _. refl)

-- the flows that stay share what all share
common-leave : (n k : ℕ) (fs : List FlowSpec) → common n fs ≡ true → common n (leave k fs) ≡ true
common-leave n k [] c = refl
common-leave n k (f ∷ fs) c =
    let parts = and_parts (eqb (n % f.period) 0) (common n fs) c in
    cond_both (eqb f.number k) fs (f ∷ leave k fs) (λ l. common n l ≡ true)
    (λ _. parts.1)
    (λ _. and_from (eqb (n % f.period) 0) (common n (leave k fs)) parts.0 (common-leave n k fs parts.1))

-- no flow has period 0
pub flows_timed : (fs : List Flow) → Timed (map flow_spec fs)
flows_timed [] = tt
flows_timed (f ∷ fs) = (omega (arith, f.timed, f.prompt), flows_timed fs)

-- the frame does not grow when a flow leaves
pub frame-leave : (k : ℕ) (fs : List FlowSpec) → Timed fs → frame (leave k fs) ≤ frame fs
frame-leave k fs timed =
    let own = frame-least fs timed in
    let kept = common-leave (frame fs) k fs own.divided in
    (frame-least (leave k fs) (divided_timed (frame fs) (leave k fs) own.some kept)).least (frame fs) own.some kept

-- the first flows share what all share
common-take : (n i : ℕ) (fs : List FlowSpec) → common n fs ≡ true → common n (take i fs) ≡ true
common-take n zero fs c = refl
common-take n (suc i) [] c = refl
common-take n (suc i) (f ∷ fs) c =
    let parts = and_parts (eqb (n % f.period) 0) (common n fs) c in
    and_from (eqb (n % f.period) 0) (common n (take i fs)) parts.0 (common-take n i fs parts.1)

-- the frame of the first flows is not above that of all
pub least-take : (t i : ℕ) (fs : List Flow) → LeastCommonMultiple t (map flow_spec (take i fs)) → t ≤ frame (map flow_spec fs)
least-take t i fs is =
    let own = frame-least (map flow_spec fs) (flows_timed fs) in
    let shared = common-take (frame (map flow_spec fs)) i (map flow_spec fs) own.divided in
    is.least (frame (map flow_spec fs)) own.some (ap (common (frame (map flow_spec fs))) (sym (take-map flow_spec i fs)) ∙ shared)

-- the next flow of a list joins those before it
pub flows-more : (fs : List Flow) (i : ℕ) (f : Flow) → i < length fs → f ≡ get_or fs i f →
    map flow_spec (take (i + 1) fs) ≡ map flow_spec (take i fs) ++ flow_spec f ∷ []
flows-more fs i f h is = map_more flow_spec fs i f h ∙ ap (λ x. map flow_spec (take i fs) ++ flow_spec x ∷ []) (sym is)

-- the transmissions of one flow in t slots
abbrev pub share : ℕ → FlowSpec → ℕ
share t f = t / f.period * hops_of f.routes

-- a flow that enters adds its transmissions
pub transmissions-enter : (t : ℕ) (f : FlowSpec) (fs : List FlowSpec) →
    transmissions_in t (enter f fs) ≡ transmissions_in t fs + share t f
transmissions-enter t f [] = refl
transmissions-enter t f (g ∷ gs) =
    cond_both (ltb g.number f.number) (g ∷ enter f gs) (f ∷ g ∷ gs)
    (λ l. transmissions_in t l ≡ transmissions_in t (g ∷ gs) + share t f)
    (λ _. omega (arith, sum_by-cons (share t) g (enter f gs), sum_by-cons (share t) g gs, transmissions-enter t f gs))
    (λ _. omega (arith, sum_by-cons (share t) f (g ∷ gs)))

-- one that leaves takes away its own
leave-fewer : (t k : ℕ) (fs : List FlowSpec) → transmissions_in t (leave k fs) ≤ transmissions_in t fs
leave-fewer t k [] = omega arith
leave-fewer t k (f ∷ fs) =
    cond_both (eqb f.number k) fs (f ∷ leave k fs)
    (λ l. transmissions_in t l ≤ transmissions_in t (f ∷ fs))
    (λ _. omega (arith, sum_by-cons (share t) f fs))
    (λ _. omega (arith, sum_by-cons (share t) f fs, sum_by-cons (share t) f (leave k fs), leave-fewer t k fs))

-- in fewer slots there are no more
slots-fewer : (t u : ℕ) (fs : List FlowSpec) → Timed fs → t ≤ u → transmissions_in t fs ≤ transmissions_in u fs
slots-fewer t u [] timed le = omega arith
slots-fewer t u (f ∷ fs) timed le =
    let turns = (le-div_iff_mul-le timed.0).1 (le_trans (div-mul-le_self t f.period) le) in
    let one = mul-le-mul_right (hops_of f.routes) turns in
    omega (arith, one, sum_by-cons (share t) f fs, sum_by-cons (share u) f fs, slots-fewer t u fs timed.1 le)

-- the transmissions do not grow when a flow leaves
pub transmissions-leave : (k : ℕ) (fs : List FlowSpec) → Timed fs → transmissions (leave k fs) ≤ transmissions fs
transmissions-leave k fs timed =
    let own = frame-least fs timed in
    let stay = divided_timed (frame fs) (leave k fs) own.some (common-leave (frame fs) k fs own.divided) in
    le_trans (slots-fewer (frame (leave k fs)) (frame fs) (leave k fs) stay (frame-leave k fs timed)) (leave-fewer (frame fs) k fs)

-- without flows the frame has one slot
pub frame-none : frame [] ≡ 1
frame-none = refl

-- and no transmission
pub transmissions-none : transmissions [] ≡ 0
transmissions-none = refl
