-- The placements of a run: how many, and in which order.
use Rattle.std.proofs.Common.{◌≡◌, ℕ, suc, ◌+◌, ◌<◌, ◌≤◌, true, ◌⊎◌, List, [], ◌∷◌, ◌++◌, length, sum, refl, ap, inl, inr, ⊎_elim, arith, length-append}
use Rattle.std.specs.List.{AllByRecursion}
use Rattle.std.proofs.ByRecursion.{All-weaker}
use Rattle.frame.specs.declared.placement.Placement.{Placement}
use Rattle.frame.specs.Legs.{hop_total}
use Rattle.frame.specs.Frames.{FrameSpec}
use Rattle.frame.specs.States.{fits}
use Rattle.frame.specs.Sets.{sent}
use Rattle.frame.specs.Quick.{placed, placed_from, placed_all}
use Rattle.frame.specs.Grids.{Before, InOrder}
use Rattle.theory.proofs.Progress.{released-within, sum-sent, complete-sum}
use Rattle.theory.proofs.Runs.{Run}
use Rattle.theory.proofs.Cells.{fits_next}

-- one that comes before all of a list may stand in front of it
in_order_cons : (a : Placement) (ps : List Placement) → AllByRecursion (Before a) ps → InOrder ps → InOrder (a ∷ ps)
in_order_cons a [] h o = tt
in_order_cons a (b ∷ bs) h o = (h.0, o)

-- slot s from an offset on, or a later slot
abbrev From : ℕ → ℕ → Placement → Type 0
From s o q = (s < q.slot) ⊎ ((s ≡ q.slot) × (o ≤ q.offset))

module _ (f : FrameSpec) where
  -- a placement for each leg of a set
  pub length-placed : (set : List ℕ) (s : ℕ) (p : List ℕ) (o : ℕ) → length (placed_from f s p o set) ≡ length set
  length-placed [] s p o = refl
  length-placed (i ∷ is) s p o = ap suc (length-placed is s p (o + 1))

  -- a set's placements, with later ones behind them, are from the offset on
  placed-from : (set : List ℕ) (s : ℕ) (p : List ℕ) (o : ℕ) (ps : List Placement) → AllByRecursion (λ q. s < q.slot) ps →
      AllByRecursion (From s o) (placed_from f s p o set ++ ps)
  placed-from [] s p o ps late = All-weaker (λ q. s < q.slot) (From s o) (λ q l. inl l) ps late
  placed-from (i ∷ is) s p o ps late = (
    inr (refl, omega arith),
    All-weaker (From s (o + 1)) (From s o)
        (λ q. ⊎_elim (λ l. inl l) (λ h. inr (h.0, omega (arith, h.1)))) (placed_from f s p (o + 1) is ++ ps)
        (placed-from is s p (o + 1) ps late),
  )

  -- and in order
  in_order_from : (set : List ℕ) (s : ℕ) (p : List ℕ) (o : ℕ) (ps : List Placement) → AllByRecursion (λ q. s < q.slot) ps → InOrder ps →
      InOrder (placed_from f s p o set ++ ps)
  in_order_from [] s p o ps late order = order
  in_order_from (i ∷ is) s p o ps late order =
      in_order_cons (placed f s p o i) (placed_from f s p (o + 1) is ++ ps)
      (All-weaker (From s (o + 1)) (Before (placed f s p o i)) (λ q. ⊎_elim (λ l. inl l) (λ h. inr (h.0, omega (arith, h.1))))
      (placed_from f s p (o + 1) is ++ ps) (placed-from is s p (o + 1) ps late))
      (in_order_from is s p (o + 1) ps late order)

  -- the placements of sets from slot s on have slots from s on
  placed-slots : (sets : List (List ℕ)) (s : ℕ) (p : List ℕ) → AllByRecursion (λ q. s ≤ q.slot) (placed_all f s p sets)
  placed-slots [] s p = tt
  placed-slots (set ∷ sets) s p =
      All-weaker (From s 0) (λ q. s ≤ q.slot) (λ q. ⊎_elim (λ l. omega arith) (λ h. omega (arith, h.0)))
      (placed_all f s p (set ∷ sets))
      (placed-from set s p 0 (placed_all f (s + 1) (sent set p) sets)
      (All-weaker (λ q. s + 1 ≤ q.slot) (λ q. s < q.slot) (λ q l. omega arith) (placed_all f (s + 1) (sent set p) sets)
      (placed-slots sets (s + 1) (sent set p))))

  -- and stand in order
  pub in_order : (sets : List (List ℕ)) (s : ℕ) (p : List ℕ) → InOrder (placed_all f s p sets)
  in_order [] s p = tt
  in_order (set ∷ sets) s p =
      in_order_from set s p 0 (placed_all f (s + 1) (sent set p) sets)
      (All-weaker (λ q. s + 1 ≤ q.slot) (λ q. s < q.slot) (λ q l. omega arith) (placed_all f (s + 1) (sent set p) sets)
      (placed-slots sets (s + 1) (sent set p)))
      (in_order sets (s + 1) (sent set p))

  -- a run places each hop that is not done, and no other
  pub placed_total : (sets : List (List ℕ)) (s : ℕ) (p : List ℕ) → fits f.legs p ≡ true → Run f s p sets →
      sum p + length (placed_all f s p sets) ≡ hop_total f.legs
  placed_total [] s p ok run = omega (arith, complete-sum f p ok run)
  placed_total (set ∷ sets) s p ok (intime, now, run) =
      omega (
        arith,
        sum-sent set p (λ i h. released-within f p ok s i (now.holds i h)),
        length-append (placed_from f s p 0 set) (placed_all f (s + 1) (sent set p) sets),
        length-placed set s p 0,
        placed_total sets (s + 1) (sent set p) (fits_next f s p set ok now) run,
      )
