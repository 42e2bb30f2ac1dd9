-- The least of some numbers is the one of them that none is below.
use Rattle.std.proofs.Common.{◌≡◌, ◌⊎◌, List, [], ◌∷◌, ℤ, ◌≤ℤ◌, fold, sym, refl, ◌∙◌, inl, inr, arith}
use lib.Signed.{lt_z, ≤ℤ_refl}
use Rattle.std.specs.Int.{int_min}
use Rattle.std.proofs.lemmas.Int.{ints}
use Rattle.std.proofs.lemmas.Bool.{cases_cond}
use Rattle.ranking.specs.Laxity.{least_or}
use Rattle.ranking.proofs.Members.{In}

-- the lower of two is below both, and one of them
pub min-left : (a b : ℤ) → int_min a b ≤ℤ a
min-left a b = grind (arith, ints)

pub min-right : (a b : ℤ) → int_min a b ≤ℤ b
min-right a b = grind (arith, ints)

pub min-one : (a b : ℤ) → (int_min a b ≡ b) ⊎ (int_min a b ≡ a)
min-one a b = cases_cond (lt_z b a) b a (int_min a b) refl

pub ≤_trans : (a b c : ℤ) → a ≤ℤ b → b ≤ℤ c → a ≤ℤ c
≤_trans a b c h k = omega (arith, ints)

pub ≤_antisym : (a b : ℤ) → a ≤ℤ b → b ≤ℤ a → a ≡ b
≤_antisym a b h k = omega (arith, ints)

-- the least is below the first
pub least_first : (a : ℤ) (xs : List ℤ) → fold int_min a xs ≤ℤ a
least_first a [] = ≤ℤ_refl a
least_first a (x ∷ xs) = ≤_trans (fold int_min (int_min a x) xs) (int_min a x) a (least_first (int_min a x) xs) (min-left a x)

-- and below each other
pub least-each : (a : ℤ) (xs : List ℤ) (x : ℤ) → In x xs → fold int_min a xs ≤ℤ x
least-each a [] x h = absurd h
least-each a (y ∷ ys) x (inl e) =
    rw e (≤_trans (fold int_min (int_min a y) ys) (int_min a y) y (least_first (int_min a y) ys) (min-right a y))
least-each a (y ∷ ys) x (inr h) = least-each (int_min a y) ys x h

-- and it is one of them
pub least-reached : (a : ℤ) (xs : List ℤ) → In (fold int_min a xs) (a ∷ xs)
least-reached a [] = inl refl
least-reached a (y ∷ ys) = go (least-reached (int_min a y) ys) (min-one a y)
  where
    go : In (fold int_min (int_min a y) ys) (int_min a y ∷ ys) → (int_min a y ≡ y) ⊎ (int_min a y ≡ a) → In (fold int_min (int_min a y) ys) (a ∷ y ∷ ys)
    go (inl e) (inl is) = inr (inl (e ∙ is))
    go (inl e) (inr is) = inl (e ∙ is)
    go (inr h) _ = inr (inr h)

-- r is below all, and one of them or z; where there are any, one is not above z
pub least_is : (z r : ℤ) (xs : List ℤ) → ((x : ℤ) → In x xs → r ≤ℤ x) → (r ≡ z) ⊎ In r xs →
    ((x : ℤ) → In x xs → (y : ℤ) × In y xs × (y ≤ℤ z)) → least_or z xs ≡ r
least_is z r [] low (inl e) some = sym e
least_is z r [] low (inr h) some = absurd h
least_is z r (a ∷ bs) low from some =
    ≤_antisym (fold int_min a bs) r (go from) (low (fold int_min a bs) (least-reached a bs))
  where
    each : (x : ℤ) → In x (a ∷ bs) → fold int_min a bs ≤ℤ x
    each x (inl e) = rw e (least_first a bs)
    each x (inr h) = least-each a bs x h

    go : (r ≡ z) ⊎ In r (a ∷ bs) → fold int_min a bs ≤ℤ r
    go (inl e) =
        let under = some a (inl refl) in
        rw e (≤_trans (fold int_min a bs) under.0 z (each under.0 under.1) under.2)
    go (inr h) = each r h
