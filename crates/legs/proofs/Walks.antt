-- The lists of the definitions, one step longer.
use Rattle.std.proofs.Common.{◌≡◌, ℕ, suc, ◌+◌, ◌-◌, ◌<◌, ◌≤◌, List, [], ◌∷◌, ◌++◌, map, length, get_or, take, drop, sym, refl, ap, ◌∙◌, arith, length-append}
use Rattle.std.specs.List.{range_with_len, flat_map}
use Rattle.std.proofs.lemmas.List.{at_drop_more, length-map}
use Rattle.flow.specs.Flows.{FlowSpec}
use Rattle.legs.specs.Expand.{hops_along_route, legs_from}

-- the hops along two or more devices begin with that between the first two
pub hops_of_two : (ds : List ℕ) → 2 ≤ length ds →
    hops_along_route ds ≡ record { sender = get_or (take 2 ds) 0 0; receiver = get_or (take 2 ds) 1 0 } ∷ hops_along_route (drop 1 ds)
hops_of_two [] two = absurd (omega arith)
hops_of_two (a ∷ []) two = absurd (omega arith)
hops_of_two (a ∷ b ∷ ds) two = refl

-- and along fewer there is none
pub hops_of_one : (ds : List ℕ) → length ds < 2 → hops_along_route ds ≡ []
hops_of_one [] one = refl
hops_of_one (a ∷ []) one = refl
hops_of_one (a ∷ b ∷ ds) one = absurd (omega arith)

-- a leg for each route
pub legs_length : (f : FlowSpec) (j k : ℕ) (rs : List (List ℕ)) → length (legs_from f j k rs) ≡ length rs
legs_length f j k [] = refl
legs_length f j k (r ∷ rs) = ap suc (legs_length f j (k + 1) rs)

-- where there is room for all behind the old ones, the next list fits
pub next-fits : {X A B : Type 0} (g : X → List A) (x : X) (left rest : List X) (spec : B → A) (items : List B) (old all : List A) →
    left ≡ x ∷ rest → map spec items ++ flat_map g left ≡ old ++ all → length items + length (g x) ≤ length old + length all
next-fits g x left rest spec items old all next is =
    omega (
      arith,
      length-map items spec,
      ap length is,
      length-append (map spec items) (flat_map g left),
      length-append old all,
      ap (λ l. length (flat_map g l)) next,
      length-append (g x) (flat_map g rest),
    )

-- the numbers from i to below n begin with i
pub count_next : (i n : ℕ) → i < n → range_with_len i (n - i) ≡ i ∷ range_with_len (i + 1) (n - (i + 1))
count_next i n h = let more : n - i ≡ suc (n - (i + 1)) = omega arith in ap (range_with_len i) more

-- and there is none where i is not below n
pub count_end : (i n : ℕ) → n ≤ i → range_with_len i (n - i) ≡ []
count_end i n h = let none : n - i ≡ 0 = omega arith in ap (range_with_len i) none

-- the images of what is left at i begin with that of the item there
pub map_next : {X Y : Type 0} (h : X → Y) (xs : List X) (i : ℕ) (x : X) → i < length xs → x ≡ get_or xs i x →
    map h (drop i xs) ≡ h x ∷ map h (drop (i + 1) xs)
map_next h xs i x below is = at_drop_more (map h) xs i x below ∙ ap (λ y. h y ∷ map h (drop (i + 1) xs)) (sym is)
