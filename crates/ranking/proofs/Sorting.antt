-- Visits in order of the ends of lifetimes are the same visits, and rise.
use Rattle.std.proofs.Common.{◌≡◌, ℕ, ◌+◌, Bool, true, false, cond, List, [], ◌∷◌, ◌≤ℤ◌, count_by, sym, refl, ap, ◌∙◌, inl, inr, arith}
use Rattle.std.proofs.lemmas.List.Sums.{sum_by-cons}
use Rattle.std.proofs.lemmas.Int.{ints}
use Rattle.frame.specs.declared.visit.Visit.{Visit}
use Rattle.frame.specs.Sorts.{insert_by, sort_by}
use Rattle.frame.specs.Visits.{end_of, ends_no_later}
use Rattle.ranking.proofs.Members.{In}
use Rattle.ranking.proofs.Least.{≤_trans}
use Rattle.ranking.proofs.Passes.{Rising, le_from_int}

-- what the order of ends says
ends_le : (v w : Visit) → ends_no_later v w ≡ true → end_of v ≤ℤ end_of w
ends_le v w e = le_from_int (end_of v) (end_of w) e

ends_gt : (v w : Visit) → ends_no_later v w ≡ false → end_of w ≤ℤ end_of v
ends_gt v w e = grind (arith, ints)

-- what stands in the list with one more
pub in_insert : (v : Visit) (ws : List Visit) (x : Visit) → In x (insert_by ends_no_later v ws) → In x (v ∷ ws)
in_insert v [] x h = h
in_insert v (w ∷ ws) x h = go (ends_no_later v w) (in_insert v ws x) h
  where
    go : (b : Bool) → (In x (insert_by ends_no_later v ws) → In x (v ∷ ws)) → In x (cond b (v ∷ w ∷ ws) (w ∷ insert_by ends_no_later v ws)) → In x (v ∷ w ∷ ws)
    go true rest t = t
    go false rest (inl e) = inr (inl e)
    go false rest (inr t) = elim (rest t) [ inl e ↦ inl e | inr i ↦ inr (inr i) ]

pub insert_in : (v : Visit) (ws : List Visit) (x : Visit) → In x (v ∷ ws) → In x (insert_by ends_no_later v ws)
insert_in v [] x h = h
insert_in v (w ∷ ws) x h = go (ends_no_later v w) (insert_in v ws x) h
  where
    go : (b : Bool) → (In x (v ∷ ws) → In x (insert_by ends_no_later v ws)) → In x (v ∷ w ∷ ws) → In x (cond b (v ∷ w ∷ ws) (w ∷ insert_by ends_no_later v ws))
    go true rest t = t
    go false rest (inl e) = inr (rest (inl e))
    go false rest (inr (inl e)) = inl e
    go false rest (inr (inr i)) = inr (rest (inr i))

-- sorting keeps what stands in the list
pub in_sort : (vs : List Visit) (x : Visit) → In x (sort_by ends_no_later vs) → In x vs
in_sort [] x h = h
in_sort (v ∷ vs) x h = go (in_insert v (sort_by ends_no_later vs) x h) (in_sort vs x)
  where
    go : In x (v ∷ sort_by ends_no_later vs) → (In x (sort_by ends_no_later vs) → In x vs) → In x (v ∷ vs)
    go (inl e) rest = inl e
    go (inr i) rest = inr (rest i)

pub sort_in : (vs : List Visit) (x : Visit) → In x vs → In x (sort_by ends_no_later vs)
sort_in [] x h = h
sort_in (v ∷ vs) x (inl e) = insert_in v (sort_by ends_no_later vs) x (inl e)
sort_in (v ∷ vs) x (inr h) = insert_in v (sort_by ends_no_later vs) x (inr (sort_in vs x h))

-- and the counts
count-insert : (q : Visit → Bool) (v : Visit) (ws : List Visit) → count_by q (insert_by ends_no_later v ws) ≡ count_by q (v ∷ ws)
count-insert q v [] = refl
count-insert q v (w ∷ ws) = go (ends_no_later v w) (count-insert q v ws)
  where
    go : (b : Bool) → count_by q (insert_by ends_no_later v ws) ≡ count_by q (v ∷ ws) →
        count_by q (cond b (v ∷ w ∷ ws) (w ∷ insert_by ends_no_later v ws)) ≡ count_by q (v ∷ w ∷ ws)
    go true rest = refl
    go false rest =
        let one : Visit → ℕ = λ y. cond (q y) 1 0 in
        let a = sum_by-cons one w (insert_by ends_no_later v ws) in
        let b = sum_by-cons one v (w ∷ ws) in
        let c = sum_by-cons one w ws in
        let d = sum_by-cons one v ws in
        omega arith

pub count_sort : (q : Visit → Bool) (vs : List Visit) → count_by q (sort_by ends_no_later vs) ≡ count_by q vs
count_sort q [] = refl
count_sort q (v ∷ vs) =
    count-insert q v (sort_by ends_no_later vs)
    ∙ sum_by-cons (λ y. cond (q y) 1 0) v (sort_by ends_no_later vs)
    ∙ ap (λ n. cond (q v) 1 0 + n) (count_sort q vs)
    ∙ sym (sum_by-cons (λ y. cond (q y) 1 0) v vs)

-- the ends rise
rising-insert : (v : Visit) (ws : List Visit) → Rising end_of ws → Rising end_of (insert_by ends_no_later v ws)
rising-insert v [] rising = (λ y i. absurd i, tt)
rising-insert v (w ∷ ws) rising = go (ends_no_later v w) refl (rising-insert v ws rising.1)
  where
    first : end_of v ≤ℤ end_of w → (y : Visit) → In y (w ∷ ws) → end_of v ≤ℤ end_of y
    first h y (inl e) = rw e h
    first h y (inr i) = ≤_trans (end_of v) (end_of w) (end_of y) h (rising.0 y i)

    behind : end_of w ≤ℤ end_of v → (y : Visit) → In y (v ∷ ws) → end_of w ≤ℤ end_of y
    behind h y (inl e) = rw e h
    behind h y (inr i) = rising.0 y i

    go : (b : Bool) → ends_no_later v w ≡ b → Rising end_of (insert_by ends_no_later v ws) → Rising end_of (cond b (v ∷ w ∷ ws) (w ∷ insert_by ends_no_later v ws))
    go true is rest = (first (ends_le v w is), rising)
    go false is rest = (λ y i. behind (ends_gt v w is) y (in_insert v ws y i), rest)

-- sorted visits rise
pub rising_sort : (vs : List Visit) → Rising end_of (sort_by ends_no_later vs)
rising_sort [] = tt
rising_sort (v ∷ vs) = rising-insert v (sort_by ends_no_later vs) (rising_sort vs)
