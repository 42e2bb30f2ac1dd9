-- The legs of a first set.
use Rattle.std.proofs.Common.{◌≡◌, ℕ, ◌<◌, ◌≤◌, true, false, ltb, leb, List, [], ◌∷◌, ◌++◌, length, sym, refl, ap, ◌∙◌, subst, ⊎_elim, arith}
use Rattle.std.specs.List.{ContainsAt as Has}
use Rattle.std.proofs.lemmas.List.{append_assoc, append-nil, get_or_past}
use Rattle.std.proofs.lemmas.Bool.{cond_both, cond-true, cond-false, and_left, and_from, and_parts, le-ltb, le-leb, leb-true, ltb-true, cases_lt}
use Rattle.frame.specs.Frames.{FrameSpec, leg_count, size_of, leg_at, no_leg}
use Rattle.frame.specs.States.{released, done_of}
use Rattle.frame.specs.Sets.{clear, sendable, conflict_free}
use Rattle.frame.specs.Quick.{Order, first_set}
use Rattle.frame.specs.Grids.{Distinct}
use Rattle.theory.specs.Greedy.{joins, greedy}
use Rattle.theory.specs.Orders.{Orders}
use Rattle.theory.proofs.Clear.{joins-sendable}
use Rattle.theory.proofs.First.{first-set-greedy}
use Rattle.theory.proofs.Members.{has_here, has_there, has_cases}

-- a released leg has a hop left
pub released-left : (f : FrameSpec) (s : ℕ) (p : List ℕ) (i : ℕ) → released f s p i ≡ true → done_of p i < size_of f i
released-left f s p i h =
    ltb-true (done_of p i) (size_of f i) (and_parts (ltb (done_of p i) (size_of f i)) (leb (leg_at f i).release s) h).0

-- and its release has come
pub released-opens : (f : FrameSpec) (s : ℕ) (p : List ℕ) (i : ℕ) → released f s p i ≡ true → (leg_at f i).release ≤ s
released-opens f s p i h =
    leb-true (leg_at f i).release s (and_parts (ltb (done_of p i) (size_of f i)) (leb (leg_at f i).release s) h).1

-- a leg that has a hop left is one of the frame's
pub sized_below : (f : FrameSpec) (i k : ℕ) → k < size_of f i → i < leg_count f
sized_below f i k h = ⊎_elim (λ l. l) past (cases_lt i (leg_count f))
  where
    past : leg_count f ≤ i → i < leg_count f
    past g = let none = ap (λ l. length l.hops) (get_or_past f.legs i no_leg g) in omega (arith, none)

-- a released leg is one of the frame's
pub released_below : (f : FrameSpec) (s : ℕ) (p : List ℕ) (i : ℕ) → released f s p i ≡ true → i < leg_count f
released_below f s p i h = sized_below f i (done_of p i) (released-left f s p i h)

module _ (f : FrameSpec) (p : List ℕ) where
  -- the legs that join are some of the legs given
  pub has_from-greedy : (xs chosen : List ℕ) (z : ℕ) → Has (greedy f p chosen xs) z → Has xs z
  has_from-greedy [] chosen z = λ h. h
  has_from-greedy (x ∷ xs) chosen z =
      cond_both (joins f p chosen x) (x ∷ greedy f p (chosen ++ x ∷ []) xs) (greedy f p chosen xs) (λ l. Has l z → Has (x ∷ xs) z)
      (λ _ h. ⊎_elim (λ e. subst (λ w. Has (x ∷ xs) w) e (has_here x xs))
      (λ r. has_there x xs z (has_from-greedy xs (chosen ++ x ∷ []) z r)) (has_cases x (greedy f p (chosen ++ x ∷ []) xs) z h))
      (λ _ h. has_there x xs z (has_from-greedy xs chosen z h))

  -- none joins twice
  pub distinct-greedy : (xs chosen : List ℕ) → Distinct xs → Distinct (greedy f p chosen xs)
  distinct-greedy [] chosen d = d
  distinct-greedy (x ∷ xs) chosen (out, d) =
      cond_both (joins f p chosen x) (x ∷ greedy f p (chosen ++ x ∷ []) xs) (greedy f p chosen xs) Distinct
      (λ _. (λ h. out (has_from-greedy xs (chosen ++ x ∷ []) x h), distinct-greedy xs (chosen ++ x ∷ []) d))
      (λ _. distinct-greedy xs chosen d)

  -- with the legs that join, the chosen ones can be sent
  pub sendable-greedy : (xs chosen : List ℕ) → sendable f p chosen ≡ true → sendable f p (chosen ++ greedy f p chosen xs) ≡ true
  sendable-greedy [] chosen e = ap (sendable f p) (append-nil chosen) ∙ e
  sendable-greedy (x ∷ xs) chosen e =
      cond_both (joins f p chosen x) (x ∷ greedy f p (chosen ++ x ∷ []) xs) (greedy f p chosen xs)
      (λ l. sendable f p (chosen ++ l) ≡ true)
      (λ j. ap (sendable f p) (sym (append_assoc chosen (x ∷ []) (greedy f p (chosen ++ x ∷ []) xs)))
      ∙ sendable-greedy xs (chosen ++ x ∷ []) (sym (joins-sendable f p chosen x e) ∙ j))
      (λ _. sendable-greedy xs chosen e)

  -- a leg that joins, in a loop over the legs: the chosen legs with those that join are as before
  pub greedy_takes : (chosen : List ℕ) (x : ℕ) (xs : List ℕ) → joins f p chosen x ≡ true →
      (chosen ++ x ∷ []) ++ greedy f p (chosen ++ x ∷ []) xs ≡ chosen ++ greedy f p chosen (x ∷ xs)
  greedy_takes chosen x xs e =
      append_assoc chosen (x ∷ []) (greedy f p (chosen ++ x ∷ []) xs)
      ∙ ap (λ l. chosen ++ l) (sym (cond-true (joins f p chosen x) (x ∷ greedy f p (chosen ++ x ∷ []) xs) (greedy f p chosen xs) e))

  -- and a leg that cannot
  pub greedy_leaves : (chosen : List ℕ) (x : ℕ) (xs : List ℕ) → joins f p chosen x ≡ false →
      greedy f p chosen xs ≡ greedy f p chosen (x ∷ xs)
  greedy_leaves chosen x xs e =
      sym (cond-false (joins f p chosen x) (x ∷ greedy f p (chosen ++ x ∷ []) xs) (greedy f p chosen xs) e)

  -- when all channels are taken, none joins
  pub greedy_full : (xs chosen : List ℕ) → f.channels ≤ length chosen → greedy f p chosen xs ≡ []
  greedy_full [] chosen full = refl
  greedy_full (x ∷ xs) chosen full =
      cond-false (joins f p chosen x) (x ∷ greedy f p (chosen ++ x ∷ []) xs) (greedy f p chosen xs)
      (and_left (ltb (length chosen) f.channels) (clear f p x chosen) (le-ltb (length chosen) f.channels full))
      ∙ greedy_full xs chosen full

  -- nothing can be sent
  pub sendable-none : sendable f p [] ≡ true
  sendable-none = and_from (leb 0 f.channels) true (le-leb 0 f.channels (omega arith)) refl

  -- a sendable set has at most as many legs as there are channels
  pub sendable-short : (xs : List ℕ) → sendable f p xs ≡ true → length xs ≤ f.channels
  sendable-short xs e =
      leb-true (length xs) f.channels (and_parts (leb (length xs) f.channels) (conflict_free f p xs) e).0

  -- and no conflict
  pub sendable_free : (xs : List ℕ) → sendable f p xs ≡ true → conflict_free f p xs ≡ true
  sendable_free xs e = (and_parts (leb (length xs) f.channels) (conflict_free f p xs) e).1

module _ (f : FrameSpec) (order : Order) (orders : Orders f order) (s : ℕ) (p : List ℕ) where
  -- no leg stands twice in a first set
  pub first-distinct : Distinct (first_set f order s p)
  first-distinct = rw (first-set-greedy f order s p) (distinct-greedy f p (order s p) [] (orders.distinct s p))

  -- its legs are released
  pub first-released : (i : ℕ) → Has (first_set f order s p) i → released f s p i ≡ true
  first-released i h =
      orders.holds s p i (has_from-greedy f p (order s p) [] i (subst (λ l. Has l i) (first-set-greedy f order s p) h))

  -- it can be sent
  pub first-sendable : sendable f p (first_set f order s p) ≡ true
  first-sendable = rw (first-set-greedy f order s p) (sendable-greedy f p (order s p) [] (sendable-none f p))
