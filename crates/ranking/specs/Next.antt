-- The next hop of a leg, as the code reads it.
use Rattle.std.specs.Prelude.{ℕ, ◌+◌, ◌-◌, Bool, ◌&&◌, List, length, pos, ◌-ℤ◌, Option, slice_index_or}
use Rattle.std.specs.Bool.{then_some}
use Rattle.frame.specs.Frames.{FrameSpec, no_hop, leg_at}
use Rattle.frame.specs.Legs.{LegSpec}
use Rattle.frame.specs.States.{is_state_at, done_of, released}
use Rattle.ranking.specs.declared.hops.NextHop.{NextHop}

-- hop k of a leg
abbrev pub hop_in : LegSpec → ℕ → NextHop
hop_in l k = record { sender = (slice_index_or l.hops k no_hop).sender; end = pos l.due -ℤ pos (length l.hops - (k + 1)) }

-- the next hop of leg i
abbrev pub hop_of : FrameSpec → List ℕ → ℕ → NextHop
hop_of f p i = hop_in (leg_at f i) (done_of p i)

-- the next hop of leg i is released in a state
abbrev pub is_ready_leg : FrameSpec → ℕ → List ℕ → ℕ → Bool
is_ready_leg f s p i = is_state_at f s p && released f s p i

-- the next hop of leg i, where it is released in a state
abbrev pub released_hop_of : FrameSpec → ℕ → List ℕ → ℕ → Option NextHop
released_hop_of f s p i = then_some (is_ready_leg f s p i) (hop_of f p i)
