-- A leg whose next hop is released is one of the frame's, and has that hop.
use Rattle.std.proofs.Common.{◌≡◌, ℕ, ◌<◌, ◌≤◌, true, ltb, leb, ◌⊎◌, List, length, ap, inl, inr, arith}
use Rattle.std.proofs.lemmas.Bool.{and_parts, ltb-true, leb-true, cases_lt}
use Rattle.std.proofs.lemmas.List.{get_or_past}
use Rattle.frame.specs.Frames.{FrameSpec, no_leg, leg_at, leg_count, size_of}
use Rattle.frame.specs.States.{done_of, released}

module _ (f : FrameSpec) (s : ℕ) (p : List ℕ) (i : ℕ) (free : released f s p i ≡ true) where
  -- its next hop is undone
  pub next-undone : done_of p i < size_of f i
  next-undone = ltb-true (done_of p i) (size_of f i) (and_parts (ltb (done_of p i) (size_of f i)) (leb (leg_at f i).release s) free).0

  -- its release has come
  pub next_open : (leg_at f i).release ≤ s
  next_open = leb-true (leg_at f i).release s (and_parts (ltb (done_of p i) (size_of f i)) (leb (leg_at f i).release s) free).1

  -- it is a leg of the frame
  pub next-leg : i < leg_count f
  next-leg = go (cases_lt i (leg_count f))
    where
      go : (i < leg_count f) ⊎ (leg_count f ≤ i) → i < leg_count f
      go (inl h) = h
      go (inr h) =
          let past : size_of f i ≡ 0 = ap (λ l. length l.hops) (get_or_past f.legs i no_leg h) in
          absurd (omega (arith, next-undone))
