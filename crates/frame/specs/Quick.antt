-- The quick walk: the first set at each state, and no way back.
use Rattle.std.specs.Prelude.{ℕ, zero, suc, ◌+◌, cond, List, [], ◌∷◌, ◌++◌, replicate, slice_index_or}
use Rattle.frame.specs.declared.placement.Placement.{Placement}
use Rattle.frame.specs.Frames.{FrameSpec, leg_count, leg_at}
use Rattle.frame.specs.States.{done_of, overdue, complete}
use Rattle.frame.specs.Sets.{next_hop, sets_of, sent}

-- the ranking order of the released hops at each slot and progress
abbrev pub Order : Type 0
Order = ℕ → List ℕ → List ℕ

-- the first of the sets of a slot
abbrev pub first_set : FrameSpec → Order → ℕ → List ℕ → List ℕ
first_set f order s p = slice_index_or (sets_of f p (order s p)) 0 []

-- how the quick walk ends: all hops are done, with the sets of slot 1, 2 and so on, or some hop cannot be in time in a slot
pub data Ended : Type 0 where
  filled : List (List ℕ) → Ended
  missed : (slot : ℕ) → Ended

-- one more set in front
abbrev pub behind : List ℕ → Ended → Ended
behind set (filled sets) = filled (set ∷ sets)
behind set (missed s) = missed s

-- the quick walk from a state on, over at most n states
abbrev pub quick_from : FrameSpec → Order → ℕ → ℕ → List ℕ → Ended
quick_from f order zero s p = missed s
quick_from f order (suc n) s p =
    cond (complete f p) (filled [])
    (cond (overdue f s p) (missed s)
    (let set = first_set f order s p in behind set (quick_from f order n (s + 1) (sent set p))))

-- nothing is done
abbrev pub untouched : FrameSpec → List ℕ
untouched f = replicate (leg_count f) 0

-- the quick walk; there are as many states as slots, and one at the end
abbrev pub quick_walk_of : FrameSpec → Order → Ended
quick_walk_of f order = quick_from f order (f.slots + 1) 1 (untouched f)

-- the placement of the next hop of leg i
abbrev pub placed : FrameSpec → ℕ → List ℕ → ℕ → ℕ → Placement
placed f s p offset i = record {
  slot = s;
  offset = offset;
  sender = (next_hop f p i).sender;
  receiver = (next_hop f p i).receiver;
  flow = (leg_at f i).flow;
  route = (leg_at f i).route;
  hop = done_of p i + 1;
}

-- the placements of a set, with offsets from the given one on
abbrev pub placed_from : FrameSpec → ℕ → List ℕ → ℕ → List ℕ → List Placement
placed_from f s p offset [] = []
placed_from f s p offset (i ∷ is) = placed f s p offset i ∷ placed_from f s p (offset + 1) is

-- the placements of the sets from slot s on: in each slot offsets 0, 1, 2 in ranking order
abbrev pub placed_all : FrameSpec → ℕ → List ℕ → List (List ℕ) → List Placement
placed_all f s p [] = []
placed_all f s p (set ∷ sets) = placed_from f s p 0 set ++ placed_all f (s + 1) (sent set p) sets
