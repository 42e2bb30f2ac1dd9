-- Laxities: how long a released hop can wait. The lower goes first.
use Rattle.std.specs.Prelude.{ℕ, cond, ◌&&◌, List, [], ◌∷◌, map, ℤ, pos, ◌+ℤ◌, ◌-ℤ◌, fold, count_by, filter, int_le, nat_le}
use Rattle.std.specs.Int.{int_min}
use Rattle.frame.specs.Frames.{FrameSpec, hop_at}
use Rattle.frame.specs.States.{HopId, is_state_at, done_of, released, first, last, undone_hops}
use Rattle.frame.specs.Sets.{next_hop}
use Rattle.frame.specs.Visits.{is_at}

-- the undone hops at device u
abbrev pub undone_at : FrameSpec → List ℕ → ℕ → List HopId
undone_at f p u = filter (λ h. is_at u (hop_at f h.leg h.place)) (undone_hops f p)

-- r and d of a hop
abbrev pub first_of : FrameSpec → ℕ → List ℕ → HopId → ℕ
first_of f s p h = first f s p h.leg h.place

abbrev pub last_of : FrameSpec → HopId → ℤ
last_of f h = last f h.leg h.place

-- the ends of the lifetimes of undone hops at u whose r lies from s to d
abbrev pub ends_at : FrameSpec → ℕ → List ℕ → ℕ → ℤ → List ℤ
ends_at f s p u d =
    map (last_of f) (filter (λ h. nat_le s (first_of f s p h) && int_le (pos (first_of f s p h)) d) (undone_at f p u))

-- the slots from s to b, less the undone hops at u with r ≥ s and d ≤ b
abbrev pub slack : FrameSpec → ℕ → List ℕ → ℕ → ℤ → ℤ
slack f s p u b =
    ((b -ℤ pos s) +ℤ pos 1) -ℤ pos (count_by (λ h. nat_le s (first_of f s p h) && int_le (last_of f h) b) (undone_at f p u))

-- the least of the numbers, or z if there is none
abbrev pub least_or : ℤ → List ℤ → ℤ
least_or z [] = z
least_or z (x ∷ xs) = fold int_min x xs

-- the next hop of leg i, if it is released in a state, has that key; anything else has 0
abbrev pub where_released : FrameSpec → ℕ → List ℕ → ℕ → ℤ → ℤ
where_released f s p i key = cond (is_state_at f s p && released f s p i) key (pos 0)

-- the slots until the end of the lifetime of leg i's next hop
abbrev pub plain_laxity : FrameSpec → ℕ → List ℕ → ℕ → ℤ
plain_laxity f s p i = last f i (done_of p i) -ℤ pos s

-- the least slack at its sender over the ends of lifetimes that begin within its own, or the plain laxity if there is none
abbrev pub conflict_laxity : FrameSpec → ℕ → List ℕ → ℕ → ℤ
conflict_laxity f s p i =
    let u = (next_hop f p i).sender in
    least_or (plain_laxity f s p i) (map (slack f s p u) (ends_at f s p u (last f i (done_of p i))))

-- least laxity first
abbrev pub least_laxity : FrameSpec → ℕ → List ℕ → ℕ → ℤ
least_laxity f s p i = where_released f s p i (plain_laxity f s p i)

-- conflict-aware least laxity first
abbrev pub conflict_aware : FrameSpec → ℕ → List ℕ → ℕ → ℤ
conflict_aware f s p i = where_released f s p i (conflict_laxity f s p i)
