-- The ranking order holds each released leg once.
use Rattle.std.proofs.Common.{◌≡◌, ℕ, ◌<◌, Bool, true, ◌⊎◌, List, [], ◌∷◌, sym, subst, inl, inr, ⊎_elim, arith}
use Rattle.std.specs.List.{range_with_len, ContainsAt as Has}
use Rattle.std.proofs.ByRecursion.{all-has, kept_by_passes}
use Rattle.std.proofs.lemmas.Bool.{cond_both}
use Rattle.frame.specs.Frames.{FrameSpec, leg_count}
use Rattle.frame.specs.States.{released}
use Rattle.frame.specs.Sets.{insert_by, sort_by, released_legs, ranked}
use Rattle.frame.specs.Grids.{Distinct}
use Rattle.theory.specs.Orders.{Orders}
use Rattle.theory.proofs.Members.{has_here, has_there, has_cases, has_from_kept, has_kept, distinct_kept}
use Rattle.theory.proofs.Members.{has_counting, counting_range, distinct_counting}

module _ (before : ℕ → ℕ → Bool) where
  -- x stands in the list that it is put into
  has_inserted : (x : ℕ) (ys : List ℕ) → Has (insert_by before x ys) x
  has_inserted x [] = has_here x []
  has_inserted x (y ∷ ys) =
      cond_both (before x y) (x ∷ y ∷ ys) (y ∷ insert_by before x ys) (λ l. Has l x) (λ _. has_here x (y ∷ ys))
      (λ _. has_there y (insert_by before x ys) x (has_inserted x ys))

  -- beside all that stood there
  has_beside : (x : ℕ) (ys : List ℕ) (z : ℕ) → Has ys z → Has (insert_by before x ys) z
  has_beside x [] z h = has_there x [] z h
  has_beside x (y ∷ ys) z h =
      cond_both (before x y) (x ∷ y ∷ ys) (y ∷ insert_by before x ys) (λ l. Has l z) (λ _. has_there x (y ∷ ys) z h)
      (λ _. ⊎_elim (λ e. subst (λ w. Has (y ∷ insert_by before x ys) w) e (has_here y (insert_by before x ys)))
      (λ r. has_there y (insert_by before x ys) z (has_beside x ys z r)) (has_cases y ys z h))

  -- and nothing else does
  inserted_cases : (x : ℕ) (ys : List ℕ) (z : ℕ) → Has (insert_by before x ys) z → (x ≡ z) ⊎ Has ys z
  inserted_cases x [] z = has_cases x [] z
  inserted_cases x (y ∷ ys) z =
      cond_both (before x y) (x ∷ y ∷ ys) (y ∷ insert_by before x ys) (λ l. Has l z → (x ≡ z) ⊎ Has (y ∷ ys) z)
      (λ _ h. has_cases x (y ∷ ys) z h)
      (λ _ h. ⊎_elim (λ e. inr (subst (λ w. Has (y ∷ ys) w) e (has_here y ys)))
      (λ r. ⊎_elim (λ e. inl e) (λ q. inr (has_there y ys z q)) (inserted_cases x ys z r)) (has_cases y (insert_by before x ys) z h))

  -- a new number is put in, and none stands twice
  distinct_inserted : (x : ℕ) (ys : List ℕ) → (Has ys x → ⊥) → Distinct ys → Distinct (insert_by before x ys)
  distinct_inserted x [] out d = (out, tt)
  distinct_inserted x (y ∷ ys) out d =
      cond_both (before x y) (x ∷ y ∷ ys) (y ∷ insert_by before x ys) Distinct (λ _. (out, d))
      (λ _. (
        λ h. ⊎_elim (λ e. out (subst (λ w. Has (y ∷ ys) w) (sym e) (has_here y ys))) d.0 (inserted_cases x ys y h),
        distinct_inserted x ys (λ h. out (has_there y ys x h)) d.1,
      ))

  -- a sorted list has what the list has
  pub has_sorted : (xs : List ℕ) (z : ℕ) → Has xs z → Has (sort_by before xs) z
  has_sorted [] z h = h
  has_sorted (x ∷ xs) z h =
      ⊎_elim (λ e. subst (λ w. Has (insert_by before x (sort_by before xs)) w) e (has_inserted x (sort_by before xs)))
      (λ r. has_beside x (sort_by before xs) z (has_sorted xs z r)) (has_cases x xs z h)

  -- and nothing else
  pub has_from-sorted : (xs : List ℕ) (z : ℕ) → Has (sort_by before xs) z → Has xs z
  has_from-sorted [] z h = h
  has_from-sorted (x ∷ xs) z h =
      ⊎_elim (λ e. subst (λ w. Has (x ∷ xs) w) e (has_here x xs)) (λ r. has_there x xs z (has_from-sorted xs z r))
      (inserted_cases x (sort_by before xs) z h)

  -- a sorted list has nothing twice where the list has nothing twice
  pub distinct-sorted : (xs : List ℕ) → Distinct xs → Distinct (sort_by before xs)
  distinct-sorted [] d = d
  distinct-sorted (x ∷ xs) (out, d) =
      distinct_inserted x (sort_by before xs) (λ h. out (has_from-sorted xs x h)) (distinct-sorted xs d)

module _ (f : FrameSpec) (before : ℕ → ℕ → Bool) (s : ℕ) (p : List ℕ) where
  -- no leg stands twice in the ranking order
  pub ranked-distinct : Distinct (ranked f before s p)
  ranked-distinct =
      distinct-sorted before (released_legs f s p)
      (distinct_kept (released f s p) (range_with_len 0 (leg_count f)) (distinct_counting 0 (leg_count f)))

  -- a leg in it is one of the frame's
  pub ranked_below : (i : ℕ) → Has (ranked f before s p) i → i < leg_count f
  ranked_below i h =
      let range = counting_range 0 (leg_count f) i
      (has_from_kept (released f s p) (range_with_len 0 (leg_count f)) i (has_from-sorted before (released_legs f s p) i h)) in
      omega arith

  -- and released
  pub ranked-released : (i : ℕ) → Has (ranked f before s p) i → released f s p i ≡ true
  ranked-released i h =
      all-has (λ x. released f s p x ≡ true) (released_legs f s p) i (kept_by_passes (released f s p) (range_with_len 0 (leg_count f)))
      (has_from-sorted before (released_legs f s p) i h)

  -- each released leg is in it
  pub ranked_has : (i : ℕ) → i < leg_count f → released f s p i ≡ true → Has (ranked f before s p) i
  ranked_has i below h =
      has_sorted before (released_legs f s p) i
      (has_kept (released f s p) (range_with_len 0 (leg_count f)) i h (has_counting 0 (leg_count f) i (omega arith) (omega arith)))

-- a ranking order, by any test, holds released legs, each once
pub ranked_orders : (f : FrameSpec) (before : ℕ → List ℕ → ℕ → ℕ → Bool) → Orders f (λ s p. ranked f (before s p) s p)
ranked_orders f before =
    record { distinct = λ s p. ranked-distinct f (before s p) s p; holds = λ s p i h. ranked-released f (before s p) s p i h }
