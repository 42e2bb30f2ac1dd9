-- The frame that flows share: its slots, and the transmissions in it.
use Rattle.std.specs.Prelude.{◌≡◌, ℕ, ◌*◌, ◌/◌, ◌%◌, ◌≤◌, Bool, true, ◌&&◌, List, [], ◌∷◌, sum_by, ◌==◌}
use Rattle.std.specs.Option.{unwrap_or}
use Rattle.flow.specs.First.{first_from}
use Rattle.flow.specs.Flows.{FlowSpec, hops_of}

-- every period divides n
abbrev pub common : ℕ → List FlowSpec → Bool
common n [] = true
common n (f ∷ fs) = n % f.period == 0 && common n fs

-- the product of the periods
abbrev pub product : List FlowSpec → ℕ
product [] = 1
product (f ∷ fs) = f.period * product fs

-- the slots of the frame: the least number from 1 on that every period divides
abbrev pub frame : List FlowSpec → ℕ
frame fs = unwrap_or (first_from (λ n. common n fs) 1 (product fs)) 0

-- the transmissions of the flows in t slots: each packet crosses every hop of every route
abbrev pub transmissions_in : ℕ → List FlowSpec → ℕ
transmissions_in t fs = sum_by (λ f. t / f.period * hops_of f.routes) fs

-- the transmissions of the flows in their frame
abbrev pub transmissions : List FlowSpec → ℕ
transmissions fs = transmissions_in (frame fs) fs

-- t is the least common multiple of the periods: every period divides it, and it is at most every number from 1 on
-- that every period divides
pub record LeastCommonMultiple (t : ℕ) (fs : List FlowSpec) : Type 0 where
  pub some : 1 ≤ t
  pub divided : common t fs ≡ true
  pub least : (m : ℕ) → 1 ≤ m → common m fs ≡ true → t ≤ m

-- t is the least common multiple of a and b
pub record LeastMultiple (a b t : ℕ) : Type 0 where
  pub some : 1 ≤ t
  pub left : t % a ≡ 0
  pub right : t % b ≡ 0
  pub least : (m : ℕ) → 1 ≤ m → m % a ≡ 0 → m % b ≡ 0 → t ≤ m
