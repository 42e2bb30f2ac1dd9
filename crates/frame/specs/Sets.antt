-- The sets of hops that may be sent in one slot, in the order in which they are tried. A set is a list of legs, each of
-- which sends its next hop.
use Rattle.std.specs.Prelude.{ℕ, ◌+◌, Bool, true, not, ◌&&◌, ◌||◌, List, [], ◌∷◌, ◌++◌, map, length, set, filter, ◌==◌, nat_le}
use Rattle.std.specs.List.{range_with_len}
use Rattle.frame.specs.declared.hop.Hop.{Hop}
use Rattle.frame.specs.Frames.{FrameSpec, leg_count, hop_at}
use Rattle.frame.specs.States.{done_of, released}
pub use Rattle.frame.specs.Sorts.{insert_by, sort_by, by_key}

-- the legs whose next hop is released, in leg order
abbrev pub released_legs : FrameSpec → ℕ → List ℕ → List ℕ
released_legs f s p = filter (released f s p) (range_with_len 0 (leg_count f))

-- the legs whose next hop is released, in ranking order: ties by leg order
abbrev pub ranked : FrameSpec → (ℕ → ℕ → Bool) → ℕ → List ℕ → List ℕ
ranked f before s p = sort_by before (released_legs f s p)

-- two hops share a device
abbrev pub clash : Hop → Hop → Bool
clash a b =
    (a.sender == b.sender || a.sender == b.receiver)
    || (a.receiver == b.sender || a.receiver == b.receiver)

-- the hop that leg i sends next
abbrev pub next_hop : FrameSpec → List ℕ → ℕ → Hop
next_hop f p i = hop_at f i (done_of p i)

-- the next hop of leg i shares no device with that of any leg of the set
abbrev pub clear : FrameSpec → List ℕ → ℕ → List ℕ → Bool
clear f p i [] = true
clear f p i (j ∷ js) = not (clash (next_hop f p i) (next_hop f p j)) && clear f p i js

-- no two legs of the set have next hops that share a device
abbrev pub conflict_free : FrameSpec → List ℕ → List ℕ → Bool
conflict_free f p [] = true
conflict_free f p (i ∷ is) = clear f p i is && conflict_free f p is

-- the set may be sent in one slot: at most as many hops as channels, and no conflict
abbrev pub sendable : FrameSpec → List ℕ → List ℕ → Bool
sendable f p set = nat_le (length set) f.channels && conflict_free f p set

-- all sets of the legs: of two, the one that holds the first leg where they differ comes first
abbrev pub subsets : List ℕ → List (List ℕ)
subsets [] = [] ∷ []
subsets (x ∷ xs) = map (λ set. x ∷ set) (subsets xs) ++ subsets xs

-- the sets of a slot in their order; the legs are given in ranking order
abbrev pub sets_of : FrameSpec → List ℕ → List ℕ → List (List ℕ)
sets_of f p legs = filter (sendable f p) (subsets legs)

-- progress after the set is sent
abbrev pub sent : List ℕ → List ℕ → List ℕ
sent [] p = p
sent (i ∷ is) p = sent is (set p i (done_of p i + 1))
