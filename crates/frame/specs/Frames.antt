-- Frames as the rules see them.
use Rattle.std.specs.Prelude.{ℕ, List, map, length, slice_index_or}
use Rattle.reserved.specs.Held.{held}
use Rattle.frame.specs.declared.hop.Hop.{Hop}
use Rattle.frame.specs.declared.frame.Frame.{Frame}
use Rattle.frame.specs.Legs.{LegSpec, leg_spec}
pub use Rattle.frame.specs.Legs.{no_hop, no_leg}

-- the legs to be sent in the slots from 1 on, over so many channels
pub record FrameSpec : Type 0 where
  pub legs : List LegSpec
  pub slots : ℕ
  pub channels : ℕ

-- what the rules see of a frame
abbrev pub frame_spec : Frame → FrameSpec
frame_spec f = record { legs = map leg_spec (held f.memory.legs); slots = f.slots; channels = f.channels }

-- the number of legs
abbrev pub leg_count : FrameSpec → ℕ
leg_count f = length f.legs

-- leg i, from 0 on
abbrev pub leg_at : FrameSpec → ℕ → LegSpec
leg_at f i = slice_index_or f.legs i no_leg

-- the number of its hops
abbrev pub size_of : FrameSpec → ℕ → ℕ
size_of f i = length (leg_at f i).hops

-- hop k of leg i, from 0 on
abbrev pub hop_at : FrameSpec → ℕ → ℕ → Hop
hop_at f i k = slice_index_or (leg_at f i).hops k no_hop
