-- Lifetimes: what it means that no undone hop is late.
use Rattle.std.proofs.Common.{◌≡◌, ℕ, zero, suc, ◌+◌, ◌<◌, ◌≤◌, true, false, ◌&&◌, ltb, leb, ◌⊎◌, List, [], ◌∷◌, get_or, sym, ◌∙◌, inl, inr, arith}
use Rattle.std.proofs.lemmas.Bool.{and_from, and_parts, le-leb, leb-true, ltb-true, ltb-false, leb-false, lt-ltb, both_ways, cases_Bool}
use Rattle.frame.specs.Below.{some_below}
use Rattle.frame.specs.Legs.{LegSpec, all_due_by}
use Rattle.frame.specs.Frames.{FrameSpec, leg_count, size_of, leg_at, no_leg}
use Rattle.frame.specs.States.{undone, post, first, late, overdue, complete, done_of}
use Rattle.frame.proofs.Late as lateness
use Rattle.frame.proofs.Scans.{some-missed, all-missed}
use Rattle.theory.proofs.Chosen.{sized_below}

-- an undone hop
pub undone-from : (f : FrameSpec) (p : List ℕ) (i k : ℕ) → done_of p i ≤ k → k < size_of f i → undone f p i k ≡ true
undone-from f p i k low high =
    and_from (leb (done_of p i) k) (ltb k (size_of f i)) (le-leb (done_of p i) k low) (lt-ltb k (size_of f i) high)

-- is not among those done
pub undone-low : (f : FrameSpec) (p : List ℕ) (i k : ℕ) → undone f p i k ≡ true → done_of p i ≤ k
undone-low f p i k e = leb-true (done_of p i) k (and_parts (leb (done_of p i) k) (ltb k (size_of f i)) e).0

-- and is one of its leg's
pub undone_high : (f : FrameSpec) (p : List ℕ) (i k : ℕ) → undone f p i k ≡ true → k < size_of f i
undone_high f p i k e = ltb-true k (size_of f i) (and_parts (leb (done_of p i) k) (ltb k (size_of f i)) e).1

module _ (f : FrameSpec) (s : ℕ) (p : List ℕ) where
  -- a late hop, without a sign
  pub late_is : (i k : ℕ) → late f s p i k ≡ ltb (leg_at f i).due (first f s p i k + post f i k)
  late_is i k = lateness.late_is (leg_at f i).due (post f i k) (first f s p i k)

  -- where none is overdue, each undone hop leaves time for those after it
  pub in_time : overdue f s p ≡ false → (i k : ℕ) → undone f p i k ≡ true → first f s p i k + post f i k ≤ (leg_at f i).due
  in_time none i k u =
      ltb-false (leg_at f i).due (first f s p i k + post f i k) (sym (late_is i k) ∙ on-time (cases_Bool (late f s p i k)))
    where
      leg : some_below (size_of f i) (λ k. undone f p i k && late f s p i k) ≡ false
      leg =
          some-missed (leg_count f) (λ i. some_below (size_of f i) (λ k. undone f p i k && late f s p i k)) none i
          (sized_below f i k (undone_high f p i k u))

      hop : (undone f p i k && late f s p i k) ≡ false
      hop = some-missed (size_of f i) (λ k. undone f p i k && late f s p i k) leg k (undone_high f p i k u)

      on-time : (late f s p i k ≡ true) ⊎ (late f s p i k ≡ false) → late f s p i k ≡ false
      on-time (inl e) = absurd (both_ways (undone f p i k && late f s p i k) hop (and_from (undone f p i k) (late f s p i k) u e))
      on-time (inr e) = e

-- each leg is due by the last slot
pub due_by : (t : ℕ) (legs : List LegSpec) → all_due_by t legs ≡ true → (i : ℕ) → (get_or legs i no_leg).due ≤ t
due_by t [] e i = omega arith
due_by t (l ∷ ls) e zero = leb-true l.due t (and_parts (leb l.due t) (all_due_by t ls) e).0
due_by t (l ∷ ls) e (suc i) = due_by t ls (and_parts (leb l.due t) (all_due_by t ls) e).1 i

-- a leg with a hop left, where not all is done
pub some_left : (f : FrameSpec) (p : List ℕ) → complete f p ≡ false → (i : ℕ) × (done_of p i < size_of f i)
some_left f p e =
    let r = all-missed (leg_count f) (λ i. leb (size_of f i) (done_of p i)) e in
    (r.0, leb-false (size_of f r.0) (done_of p r.0) r.2)

-- a state that is neither complete nor overdue is in one of the frame's slots
pub not-past : (f : FrameSpec) (s : ℕ) (p : List ℕ) → complete f p ≡ false → overdue f s p ≡ false →
    all_due_by f.slots f.legs ≡ true → s ≤ f.slots
not-past f s p left none due =
    let r = some_left f p left in
    let t = in_time f s p none r.0 (done_of p r.0) (undone-from f p r.0 (done_of p r.0) (omega arith) r.1) in
    omega (arith, due_by f.slots f.legs due r.0)
