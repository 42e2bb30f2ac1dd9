-- What the index of a flow says of the flows that enter or leave.
use Rattle.std.proofs.Common.{◌≡◌, ℕ, zero, suc, ◌<◌, ◌≤◌, true, false, cond, not, eqb, ltb, List, [], ◌∷◌, ◌++◌, map, length, get_or, take, drop, is_ok, Ok, Err, Result, sym, refl, ap, ◌∙◌, subst, ⊎_elim, arith}
use borrow.Author.Tests.{tests}
use Rattle.std.specs.List.{insert, remove}
use Rattle.std.specs.List.Sorted.{IsBinarySearchResult, IsSearchInRange}
use Rattle.std.specs.Ordering.{nat_cmp, ordering_index}
use Rattle.std.specs.Result.{MatchResult}
use Rattle.std.specs.declared.cmp.Ordering.TheVariants.{Less, Equal, Greater}
use Rattle.std.proofs.lemmas.List.{get_or-map, length-map, map-append, take-map, drop-map}
use Rattle.std.proofs.lemmas.Bool.{cond-true, cond-false, cases_eq, or_from, or_left, or_right, and_parts, not-false, not-true, eq-eqb, ne_eqb, ltb-true, lt-ltb, le-ltb}
use Rattle.reserved.specs.Held.{held}
use Rattle.flow.specs.declared.traffic.Flow.{Flow}
use Rattle.flow.specs.Flows.{FlowSpec, flow_spec}
use Rattle.table.specs.declared.table.FlowTable.{FlowTable}
use Rattle.table.specs.Force.{in_force, enter, leave, above, rising}
use Rattle.table.specs.Tables.{flows_in}
use Rattle.table.specs.Places.{number_at, IsIndexOf, IsPlaceOf}
use Rattle.table.proofs.Order.{Stands, enter-leave}

-- where no index has the number, no flow of it is in force
pub not_found : (n : ℕ) (fs : List FlowSpec) → ((k : ℕ) → k < length fs → eqb (number_at fs k) n ≡ false) → in_force n fs ≡ false
not_found n [] fail = refl
not_found n (g ∷ gs) fail =
    or_from (eqb g.number n) (in_force n gs) (fail 0 (omega arith)) (not_found n gs (λ k h. fail (suc k) (omega arith)))

-- the flow at index i is the first that has the number
pub record Found (n : ℕ) (fs : List FlowSpec) (i : ℕ) : Type 0 where
  pub there : in_force n fs ≡ true
  pub without : leave n fs ≡ remove fs i
  pub stands : (f : FlowSpec) → f.number ≡ n → f ≡ get_or fs i f → Stands f fs

-- an index that has the number, behind indices that do not, is that of the first
pub found : (n : ℕ) (fs : List FlowSpec) (i : ℕ) → i < length fs → ((k : ℕ) → k < i → eqb (number_at fs k) n ≡ false) →
    eqb (number_at fs i) n ≡ true → Found n fs i
found n [] i h fail hit = absurd (omega arith)
found n (g ∷ gs) zero h fail hit = record {
  there = or_left (eqb g.number n) (in_force n gs) hit;
  without = cond-true (eqb g.number n) gs (g ∷ leave n gs) hit;
  stands = λ f is at. subst (λ b. cond b (g ≡ f) (Stands f gs)) (sym (ap (eqb g.number) is ∙ hit)) (sym at);
}
found n (g ∷ gs) (suc i) h fail hit =
    let r = found n gs i (omega arith) (λ k lt. fail (suc k) (omega arith)) hit in
    record {
      there = or_right (eqb g.number n) (in_force n gs) r.there;
      without = cond-false (eqb g.number n) gs (g ∷ leave n gs) (fail 0 (omega arith)) ∙ ap (λ l. g ∷ l) r.without;
      stands = λ f is at.
          subst (λ b. cond b (g ≡ f) (Stands f gs)) (sym (ap (eqb g.number) is ∙ fail 0 (omega arith))) (r.stands f is at);
    }

-- a flow enters where the first number that is not below its own stands
pub placed : (f : FlowSpec) (fs : List FlowSpec) (i : ℕ) → i ≤ length fs →
    ((k : ℕ) → k < i → not (ltb (number_at fs k) f.number) ≡ false) →
    (i < length fs → not (ltb (number_at fs i) f.number) ≡ true) →
    enter f fs ≡ insert fs i f
placed f [] zero h below stop = refl
placed f [] (suc i) h below stop = absurd (omega arith)
placed f (g ∷ gs) zero h below stop =
    cond-false (ltb g.number f.number) (g ∷ enter f gs) (f ∷ g ∷ gs)
    (not-true (ltb g.number f.number) (stop (omega arith)))
placed f (g ∷ gs) (suc i) h below stop =
    cond-true (ltb g.number f.number) (g ∷ enter f gs) (f ∷ g ∷ gs)
    (not-false (ltb g.number f.number) (below 0 (omega arith)))
    ∙ ap (λ l. g ∷ l) (placed f gs i (omega arith) (λ k lt. below (suc k) (omega arith)) (λ lt. stop (omega arith)))

-- an element at an index
there : {X : Type 0} (xs : List X) (i : ℕ) → i < length xs → (x : X) × ((d : X) → get_or xs i d ≡ x)
there [] i h = absurd (omega arith)
there (x ∷ xs) zero h = (x, λ d. refl)
there (x ∷ xs) (suc i) h = there xs i (omega arith)

-- above n at each index
above_at : (n : ℕ) (fs : List FlowSpec) (k : ℕ) → above n fs ≡ true → k < length fs → n < number_at fs k
above_at n [] k a h = absurd (omega arith)
above_at n (g ∷ gs) zero a h = ltb-true n g.number (and_parts (ltb n g.number) (above n gs) a).0
above_at n (g ∷ gs) (suc k) a h = above_at n gs k (and_parts (ltb n g.number) (above n gs) a).1 (omega arith)

-- the numbers rise along the indices
rises_at : (fs : List FlowSpec) (i j : ℕ) → rising fs ≡ true → i < j → j < length fs → number_at fs i < number_at fs j
rises_at [] i j up lt h = absurd (omega arith)
rises_at (g ∷ gs) i zero up lt h = absurd (omega arith)
rises_at (g ∷ gs) zero (suc j) up lt h = above_at g.number gs j (and_parts (above g.number gs) (rising gs) up).0 (omega arith)
rises_at (g ∷ gs) (suc i) (suc j) up lt h =
    rises_at gs i j (and_parts (above g.number gs) (rising gs) up).1 (omega arith) (omega arith)

-- the number that the code compares at an index
number_of : (flows : List Flow) (k : ℕ) (d : Flow) → k < length flows →
    (get_or flows k d).number ≡ number_at (map flow_spec flows) k
number_of flows k d h =
    sym (get_or-map (λ f. f.number) (map flow_spec flows) k (flow_spec d) 0 (omega (arith, length-map flows flow_spec))
    ∙ ap (λ f. f.number) (get_or-map flow_spec flows k d (flow_spec d) h))

-- what a comparison of numbers says
is_less : (a n : ℕ) → nat_cmp a n ≡ Less → a < n
is_less a n e = grind (arith, tests)

is_equal : (a n : ℕ) → nat_cmp a n ≡ Equal → a ≡ n
is_equal a n e = grind (arith, tests)

is_greater : (a n : ℕ) → nat_cmp a n ≡ Greater → n < a
is_greater a n e = grind (arith, tests)

higher_cmp : (a b n : ℕ) → a ≤ b → ordering_index (nat_cmp a n) ≤ ordering_index (nat_cmp b n)
higher_cmp a b n le = grind (arith, tests)

-- what a binary search among rising numbers gives
pub searched_flows : (n : ℕ) (flows : List Flow) (r : Result ℕ ℕ) → rising (map flow_spec flows) ≡ true →
    IsSearchInRange r (length flows) → IsBinarySearchResult (λ (f : Flow). nat_cmp f.number n) flows r →
    MatchResult r (IsIndexOf n (map flow_spec flows)) (IsPlaceOf n (map flow_spec flows))
searched_flows n flows (Ok i) up bound h =
    let x = there flows i bound in
    record {
      inside = omega (arith, length-map flows flow_spec);
      named = sym (number_of flows i x.0 bound) ∙ is_equal (get_or flows i x.0).number n (h x.0);
    }
searched_flows n flows (Err i) up bound h =
    let long = length-map flows flow_spec in
    let parted = h (λ a b d le lt. higher_cmp (get_or flows a d).number (get_or flows b d).number n (ordered a b d le lt)) in
    record {
      within = omega arith;
      lower = λ k lt.
          let x = there flows k (omega arith) in
          let less = is_less (get_or flows k x.0).number n (parted.0 k x.0 (omega arith) lt) in
          omega (arith, less, number_of flows k x.0 (omega arith));
      higher = λ k le lt.
          let x = there flows k (omega arith) in
          let more = is_greater (get_or flows k x.0).number n (parted.1 k x.0 le (omega arith)) in
          omega (arith, more, number_of flows k x.0 (omega arith));
    }
  where
    ordered : (a b : ℕ) (d : Flow) → a ≤ b → b < length flows → (get_or flows a d).number ≤ (get_or flows b d).number
    ordered a b d le lt =
        ⊎_elim (λ (same : a ≡ b). let e = ap (λ k. (get_or flows k d).number) same in omega (arith, e))
        (λ (other : a ≡ b → ⊥).
        let up' = rises_at (map flow_spec flows) a b up (omega arith) (omega (arith, length-map flows flow_spec)) in
        omega (arith, up', number_of flows a d (omega arith), number_of flows b d lt))
        (cases_eq a b)

-- the flow at the index of a number, among rising numbers
pub found_at : (n : ℕ) (fs : List FlowSpec) (i : ℕ) → rising fs ≡ true → IsIndexOf n fs i → Found n fs i
found_at n fs i up is =
    found n fs i is.inside
    (λ k lt. ne_eqb (number_at fs k) n (λ e. omega (arith, rises_at fs k i up lt is.inside, is.named)))
    (eq-eqb (number_at fs i) n is.named)

-- a flow enters at its place
pub placed_at : (f : FlowSpec) (fs : List FlowSpec) (i : ℕ) → IsPlaceOf f.number fs i → enter f fs ≡ insert fs i f
placed_at f fs i is =
    placed f fs i is.within (λ k lt. ap not (lt-ltb (number_at fs k) f.number (is.lower k lt)))
    (λ lt. ap not (le-ltb (number_at fs i) f.number (omega (arith, is.higher i (omega arith) lt))))

-- a flow is in force exactly where a search finds it
pub found-held : (n : ℕ) (fs : List FlowSpec) (r : Result ℕ ℕ) → rising fs ≡ true →
    MatchResult r (IsIndexOf n fs) (IsPlaceOf n fs) → is_ok r ≡ in_force n fs
found-held n fs (Ok i) up is = sym (found_at n fs i up is).there
found-held n fs (Err i) up is =
    sym (not_found n fs (λ k h. ne_eqb (number_at fs k) n (λ e.
    let behind : k < i → ⊥ = λ lt. omega (arith, is.lower k lt) in omega (arith, is.higher k (omega arith) h))))

-- what a table's flows become where one is put in
pub map_inserted : (xs : List Flow) (i : ℕ) (x : Flow) → map flow_spec (insert xs i x) ≡ insert (map flow_spec xs) i (flow_spec x)
map_inserted xs i x =
    map-append flow_spec (take i xs) (x ∷ drop i xs)
    ∙ ap (λ l. l ++ flow_spec x ∷ map flow_spec (drop i xs)) (sym (take-map flow_spec i xs))
    ∙ ap (λ l. take i (map flow_spec xs) ++ flow_spec x ∷ l) (sym (drop-map flow_spec i xs))

-- and where one is taken out
pub map_removed : (xs : List Flow) (i : ℕ) → map flow_spec (remove xs i) ≡ remove (map flow_spec xs) i
map_removed xs i =
    map-append flow_spec (take i xs) (drop (suc i) xs)
    ∙ ap (λ l. l ++ map flow_spec (drop (suc i) xs)) (sym (take-map flow_spec i xs))
    ∙ ap (λ l. take i (map flow_spec xs) ++ l) (sym (drop-map flow_spec (suc i) xs))

-- as many flows as places in use
pub flows-length : (t : FlowTable) → length (flows_in t) ≡ length (held t.flows)
flows-length t = length-map (held t.flows) flow_spec

-- the index of a number that is in force, and the flow that the code reads there
module _ (n : ℕ) (flows : List Flow) (i : ℕ) (up : rising (map flow_spec flows) ≡ true) (is : IsIndexOf n (map flow_spec flows) i) where
  -- it is one of the places
  pub index-within : i < length flows
  index-within = omega (arith, is.inside, length-map flows flow_spec)

  -- the flows without it
  pub without-index : map flow_spec (remove flows i) ≡ leave n (map flow_spec flows)
  without-index = map_removed flows i ∙ sym (found_at n (map flow_spec flows) i up is).without

  module _ (x : Flow) (read : x ≡ get_or flows i x) where
    -- it has the number
    pub named-so : x.number ≡ n
    named-so = ap (λ f. f.number) read ∙ number_of flows i x index-within ∙ is.named

    -- it goes back to where it stood
    pub goes_back : enter (flow_spec x) (leave n (map flow_spec flows)) ≡ map flow_spec flows
    goes_back =
        let fs = map flow_spec flows in
        ap (λ k. enter (flow_spec x) (leave k fs)) (sym named-so)
        ∙ enter-leave (flow_spec x) fs up
        ((found_at n fs i up is).stands (flow_spec x) named-so
        (ap flow_spec read ∙ sym (get_or-map flow_spec flows i x (flow_spec x) index-within)))
