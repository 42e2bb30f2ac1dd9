-- Where a flow stands in the list, or would stand.
use Rattle.std.specs.Prelude.{◌≡◌, ℕ, ◌<◌, ◌≤◌, List, map, length, slice_index}
use Rattle.flow.specs.Flows.{FlowSpec}

-- the number of the flow at index i
abbrev pub number_at : List FlowSpec → ℕ → ℕ
number_at fs i = slice_index (map (λ f. f.number) fs) i

-- the flow of number n stands at index i
pub record IsIndexOf (n : ℕ) (fs : List FlowSpec) (i : ℕ) : Type 0 where
  pub inside : i < length fs
  pub named : number_at fs i ≡ n

-- a flow of number n would stand at index i: the numbers before it are lower, those from it on are higher
pub record IsPlaceOf (n : ℕ) (fs : List FlowSpec) (i : ℕ) : Type 0 where
  pub within : i ≤ length fs
  pub lower : (k : ℕ) → k < i → number_at fs k < n
  pub higher : (k : ℕ) → i ≤ k → k < length fs → n < number_at fs k
