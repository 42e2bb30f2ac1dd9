-- The first index that passes a test.
use Rattle.std.specs.Prelude.{ℕ, zero, suc, ◌+◌, Bool, cond, Some, None, Option}

-- the first of the n indices from k on that passes
abbrev pub first_from : (ℕ → Bool) → ℕ → ℕ → Option ℕ
first_from test k zero = None
first_from test k (suc n) = cond (test k) (Some k) (first_from test (k + 1) n)

-- the first index below n that passes
abbrev pub first : (ℕ → Bool) → ℕ → Option ℕ
first test n = first_from test 0 n
