-- Tests over the numbers below n, and over a list whose elements are numbered.
use Rattle.std.proofs.Common.{◌≡◌, ℕ, zero, suc, ◌+◌, ◌<◌, Bool, true, false, ◌&&◌, ◌||◌, List, [], ◌∷◌, map, length, get_or, Decides, sym, refl, ap, ◌∙◌, ⊎_elim, arith}
use Rattle.std.specs.List.{list_all, list_any, enumerate_from}
use Rattle.std.proofs.lemmas.Bool.{false≢true, both_ways, cases_Bool, and_cases}
use Rattle.std.proofs.lemmas.Bool.Decides.{Decides-below_and, Decides-below_or}
use Rattle.frame.specs.Below.{all_below, some_below}

-- some number passes exactly where the test over all says so
pub some_decides : (n : ℕ) (p : ℕ → Bool) → Decides (some_below n p) ((k : ℕ) × (k < n) × (p k ≡ true))
some_decides n p = Decides-below_or p (λ k. p k ≡ true) (λ m. some_below m p) (λ k. (λ e. e, λ e. e)) refl (λ _. refl) n

-- every number passes exactly where the test over all says so
pub all_decides : (n : ℕ) (p : ℕ → Bool) → Decides (all_below n p) ((k : ℕ) → k < n → p k ≡ true)
all_decides n p = Decides-below_and p (λ k. p k ≡ true) (λ m. all_below m p) (λ k. (λ e. e, λ e. e)) refl (λ _. refl) n

-- one passes
pub some-hit : (n : ℕ) (p : ℕ → Bool) (k : ℕ) → k < n → p k ≡ true → some_below n p ≡ true
some-hit n p k h e = (some_decides n p).1 (k, h, e)

-- none passes
pub some-none : (n : ℕ) (p : ℕ → Bool) → ((k : ℕ) → k < n → p k ≡ false) → some_below n p ≡ false
some-none zero p fail = refl
some-none (suc n) p fail = rw (fail n (omega arith)) (some-none n p (λ k h. fail k (omega arith)))

-- where none passes, each fails
pub some-missed : (n : ℕ) (p : ℕ → Bool) → some_below n p ≡ false → (k : ℕ) → k < n → p k ≡ false
some-missed n p out k h =
    ⊎_elim (λ e. absurd (both_ways (some_below n p) out (some-hit n p k h e))) (λ e. e) (cases_Bool (p k))

-- where not all pass, one fails
pub all-missed : (n : ℕ) (p : ℕ → Bool) → all_below n p ≡ false → (k : ℕ) × (k < n) × (p k ≡ false)
all-missed zero p e = absurd (false≢true (sym e))
all-missed (suc n) p e =
    ⊎_elim (λ out. (n, omega arith, out)) (λ out. let r = all-missed n p out in (r.0, omega arith, r.2))
    (and_cases (p n) (all_below n p) e)

-- the first number looked at first
all-front : (n : ℕ) (p : ℕ → Bool) → all_below (suc n) p ≡ (p 0 && all_below n (λ k. p (suc k)))
all-front zero p = refl
all-front (suc n) p = ap (λ b. p (suc n) && b) (all-front n p) ∙ swap (p (suc n)) (p 0) (all_below n (λ k. p (suc k)))
  where
    swap : (a b c : Bool) → (a && (b && c)) ≡ (b && (a && c))
    swap true b c = refl
    swap false true c = refl
    swap false false c = refl

-- the same of some number
some-front : (n : ℕ) (p : ℕ → Bool) → some_below (suc n) p ≡ (p 0 || some_below n (λ k. p (suc k)))
some-front zero p = refl
some-front (suc n) p = ap (λ b. p (suc n) || b) (some-front n p) ∙ swap (p (suc n)) (p 0) (some_below n (λ k. p (suc k)))
  where
    swap : (a b c : Bool) → (a || (b || c)) ≡ (b || (a || c))
    swap false b c = refl
    swap true true c = refl
    swap true false c = refl

-- a test of the numbered elements of a list, as v sees them
pub all-enumerated : {X Y : Type 0} (v : X → Y) (p : ℕ → Y → Bool) (a : ℕ) (xs : List X) (d : Y) (q : ℕ → Bool) →
    ((i j : ℕ) → a + i ≡ j → i < length xs → p j (get_or (map v xs) i d) ≡ q i) →
    list_all (λ x. p x.0 (v x.1)) (enumerate_from a xs) ≡ all_below (length xs) q
all-enumerated v p a [] d q h = refl
all-enumerated v p a (x ∷ xs) d q h =
    ap (λ b. b && list_all (λ x. p x.0 (v x.1)) (enumerate_from (a + 1) xs)) (h 0 a (omega arith) (omega arith))
    ∙ ap (λ b. q 0 && b) (all-enumerated v p (a + 1) xs d (λ i. q (suc i)) (λ i j on lt. h (suc i) j (omega arith) (omega arith)))
    ∙ sym (all-front (length xs) q)

-- the same of some element
pub some-enumerated : {X Y : Type 0} (v : X → Y) (p : ℕ → Y → Bool) (a : ℕ) (xs : List X) (d : Y) (q : ℕ → Bool) →
    ((i j : ℕ) → a + i ≡ j → i < length xs → p j (get_or (map v xs) i d) ≡ q i) →
    list_any (λ x. p x.0 (v x.1)) (enumerate_from a xs) ≡ some_below (length xs) q
some-enumerated v p a [] d q h = refl
some-enumerated v p a (x ∷ xs) d q h =
    ap (λ b. b || list_any (λ x. p x.0 (v x.1)) (enumerate_from (a + 1) xs)) (h 0 a (omega arith) (omega arith))
    ∙ ap (λ b. q 0 || b) (some-enumerated v p (a + 1) xs d (λ i. q (suc i)) (λ i j on lt. h (suc i) j (omega arith) (omega arith)))
    ∙ sym (some-front (length xs) q)
