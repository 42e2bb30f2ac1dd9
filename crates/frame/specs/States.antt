-- States, and the lifetimes of undone hops. A state is a slot and, for each leg, the number of its hops that are done.
use Rattle.std.specs.Prelude.{ℕ, ◌+◌, ◌-◌, max, Bool, true, false, ◌&&◌, List, [], ◌∷◌, map, length, ℤ, pos, ◌-ℤ◌, int_lt, nat_le, nat_lt, slice_index}
use Rattle.std.specs.List.{range_with_len, flat_map}
use Rattle.frame.specs.Below.{all_below, some_below}
use Rattle.frame.specs.Legs.{LegSpec}
use Rattle.frame.specs.Frames.{FrameSpec, leg_count, leg_at, size_of}

-- one number for each leg, none above the leg's hops
abbrev pub fits : List LegSpec → List ℕ → Bool
fits [] [] = true
fits [] (n ∷ ns) = false
fits (l ∷ ls) [] = false
fits (l ∷ ls) (n ∷ ns) = nat_le n (length l.hops) && fits ls ns

-- slot s, from 1 to one past the frame, and progress p are a state
abbrev pub is_state_at : FrameSpec → ℕ → List ℕ → Bool
is_state_at f s p = (nat_le 1 s && nat_le s (f.slots + 1)) && fits f.legs p

-- the hops of leg i that are done
abbrev pub done_of : List ℕ → ℕ → ℕ
done_of p i = slice_index p i

-- hop k of leg i is undone
abbrev pub undone : FrameSpec → List ℕ → ℕ → ℕ → Bool
undone f p i k = nat_le (done_of p i) k && nat_lt k (size_of f i)

-- the undone hops before hop k in its leg
abbrev pub pre : List ℕ → ℕ → ℕ → ℕ
pre p i k = k - done_of p i

-- the undone hops after hop k in its leg
abbrev pub post : FrameSpec → ℕ → ℕ → ℕ
post f i k = size_of f i - (k + 1)

-- r, the first slot of hop k's lifetime
abbrev pub first : FrameSpec → ℕ → List ℕ → ℕ → ℕ → ℕ
first f s p i k = max (leg_at f i).release s + pre p i k

-- d, the last slot of hop k's lifetime; it may be negative
abbrev pub last : FrameSpec → ℕ → ℕ → ℤ
last f i k = pos (leg_at f i).due -ℤ pos (post f i k)

-- r > d
abbrev pub late : FrameSpec → ℕ → List ℕ → ℕ → ℕ → Bool
late f s p i k = int_lt (last f i k) (pos (first f s p i k))

-- some undone hop has r > d
abbrev pub overdue : FrameSpec → ℕ → List ℕ → Bool
overdue f s p = some_below (leg_count f) (λ i. some_below (size_of f i) (λ k. undone f p i k && late f s p i k))

-- all hops are done
abbrev pub complete : FrameSpec → List ℕ → Bool
complete f p = all_below (leg_count f) (λ i. nat_le (size_of f i) (done_of p i))

-- the next hop of leg i is released: no undone hop stands before it, and the leg's release has come
abbrev pub released : FrameSpec → ℕ → List ℕ → ℕ → Bool
released f s p i = nat_lt (done_of p i) (size_of f i) && nat_le (leg_at f i).release s

-- a hop by its leg and its place in the leg, both from 0 on
pub record HopId : Type 0 where
  pub leg : ℕ
  pub place : ℕ

abbrev pub hop_id : ℕ → ℕ → HopId
hop_id i k = record { leg = i; place = k }

-- the undone hops of leg i, in order
abbrev pub undone_of : FrameSpec → List ℕ → ℕ → List HopId
undone_of f p i = map (hop_id i) (range_with_len (done_of p i) (size_of f i - done_of p i))

-- all undone hops, leg after leg
abbrev pub undone_hops : FrameSpec → List ℕ → List HopId
undone_hops f p = flat_map (undone_of f p) (range_with_len 0 (leg_count f))
