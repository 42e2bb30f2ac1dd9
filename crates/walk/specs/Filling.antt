-- One slot filled, in lent memory.
use Rattle.std.specs.Prelude.{◌≡◌, ℕ, ◌+◌, ◌-◌, ◌<◌, Bool, not, List, map, length, drop}
use Rattle.std.specs.List.{ContainsAt as Has, list_all}
use Rattle.frame.specs.declared.hop.Hop.{Hop}
use Rattle.frame.specs.declared.placement.Placement.{Placement}
use Rattle.frame.specs.Frames.{FrameSpec, leg_at, size_of, hop_at, leg_count}
use Rattle.frame.specs.States.{done_of}
use Rattle.frame.specs.Sets.{clash}
use Rattle.frame.specs.Grids.{Distinct}
use Rattle.walk.specs.declared.ranked.Ranked.{Ranked}

-- hop k of leg i, from 0 on, in a cell
abbrev pub placed_at : FrameSpec → ℕ → ℕ → ℕ → ℕ → Placement
placed_at f s offset i k = record {
  slot = s;
  offset = offset;
  sender = (hop_at f i k).sender;
  receiver = (hop_at f i k).receiver;
  flow = (leg_at f i).flow;
  route = (leg_at f i).route;
  hop = k + 1;
}

-- the hop of a placement
abbrev pub hop_of : Placement → Hop
hop_of a = record { sender = a.sender; receiver = a.receiver }

-- two placements share a device
abbrev pub meets : Placement → Placement → Bool
meets a b = clash (hop_of a) (hop_of b)

-- a placement shares no device with any of the others
abbrev pub apart : Placement → List Placement → Bool
apart a bs = list_all (λ b. not (meets a b)) bs

-- the legs of entries
abbrev pub legs_of : List Ranked → List ℕ
legs_of es = map (λ e. e.leg) es

-- the legs are distinct, and each has a next hop
pub record Ready (f : FrameSpec) (p : List ℕ) (legs : List ℕ) : Type 0 where
  pub distinct : Distinct legs
  pub left : (i : ℕ) → Has legs i → done_of p i < size_of f i
  pub counted : length p ≡ leg_count f

-- the placement of the next hop of leg i after those of the slot, which stand from `mark` on
abbrev pub next_cell : FrameSpec → ℕ → List ℕ → ℕ → ℕ → List Placement → Placement
next_cell f s p i mark trail = placed_at f s (length trail - mark) i (done_of p i)

-- it shares no device with them
abbrev pub can_join : FrameSpec → ℕ → List ℕ → ℕ → ℕ → List Placement → Bool
can_join f s p i mark trail = apart (next_cell f s p i mark trail) (drop mark trail)
