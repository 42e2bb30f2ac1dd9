-- A loop that looks for the first index finds what `first` says.
use Rattle.std.proofs.Common.{◌≡◌, ℕ, zero, suc, ◌+◌, ◌<◌, ◌≤◌, Bool, true, false, Some, None, refl, ap, ◌∙◌, ⊎_elim, arith}
use Rattle.std.proofs.lemmas.Bool.{cond-true, cond-false, cases_eq}
use Rattle.flow.specs.First.{first, first_from}

-- past the indices that fail, the one that passes is first
from-hit : (p : ℕ → Bool) (n k i : ℕ) → k ≤ i → i < k + n → ((j : ℕ) → k ≤ j → j < i → p j ≡ false) → p i ≡ true →
    first_from p k n ≡ Some i
from-hit p zero k i low high fail pass = absurd (omega arith)
from-hit p (suc n) k i low high fail pass =
    ⊎_elim
    (λ (e : k ≡ i). rw (cond-true (p k) (Some k) (first_from p (k + 1) n) (ap p e ∙ pass)) (ap Some e))
    (λ (e : k ≡ i → ⊥). rw (cond-false (p k) (Some k) (first_from p (k + 1) n) (fail k (omega arith) (omega arith)))
    (from-hit p n (k + 1) i (omega arith) (omega arith) (λ j a b. fail j (omega arith) b) pass))
    (cases_eq k i)

-- where all fail, none is first
from-none : (p : ℕ → Bool) (n k : ℕ) → ((j : ℕ) → k ≤ j → j < k + n → p j ≡ false) → first_from p k n ≡ None
from-none p zero k fail = refl
from-none p (suc n) k fail =
    rw (cond-false (p k) (Some k) (first_from p (k + 1) n) (fail k (omega arith) (omega arith)))
    (from-none p n (k + 1) (λ j a b. fail j (omega arith) (omega arith)))

-- the first index that passes, behind those that fail
pub first-hit : (p : ℕ → Bool) (n i : ℕ) → i < n → ((j : ℕ) → j < i → p j ≡ false) → p i ≡ true → first p n ≡ Some i
first-hit p n i in' fail pass = from-hit p n 0 i (omega arith) (omega arith) (λ j _ b. fail j b) pass

-- no index passes
pub first-none : (p : ℕ → Bool) (n : ℕ) → ((j : ℕ) → j < n → p j ≡ false) → first p n ≡ None
first-none p n fail = from-none p n 0 (λ j _ b. fail j (omega arith))
