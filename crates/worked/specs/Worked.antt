-- A frame worked by hand: one channel and two flows, of which flow 1 goes 1-0-2 and flow 2 goes 3-0-2.
use Rattle.std.specs.Prelude.{[], ◌∷◌, ◌≡◌, ℕ, pos, negsuc}
use Rattle.std.specs.Int.Count.{ones}
use Rattle.flow.specs.Flows.{FlowSpec}
use Rattle.frame.specs.declared.placement.Placement.{Placement}
use Rattle.frame.specs.Frames.{FrameSpec}
use Rattle.frame.specs.Grids.{grid_count}
use Rattle.legs.specs.Expand.{frame_of, leg_of_packet}
use Rattle.ranking.specs.Laxity.{least_laxity, conflict_aware}
use Rattle.walk.specs.Outcomes.{grid, miss, quick_outcome}

-- a flow of period 4 from a device over the gateway to device 2
abbrev pub flow_from : ℕ → ℕ → ℕ → FlowSpec
flow_from device number deadline =
    record { number = number; period = 4; deadline = deadline; routes = (device ∷ 0 ∷ 2 ∷ []) ∷ [] }

-- flow 1 has deadline 3, flow 2 the given one; map 1 allows one channel
abbrev pub two_flows : ℕ → FrameSpec
two_flows deadline = frame_of (flow_from 1 1 3 ∷ flow_from 3 2 deadline ∷ []) 1

abbrev pub at : (slot sender receiver flow hop : ℕ) → Placement
at slot sender receiver flow hop =
    record { slot = slot; offset = 0; sender = sender; receiver = receiver; flow = flow; route = 1; hop = hop }

pub record Worked : Type 0 where
  -- with deadlines 3 and 4, in slot 2 after 1→0: laxity 0 for 0→2 of flow 1, and 1 for 3→0
  pub tight : conflict_aware (two_flows 4) 2 (1 ∷ 0 ∷ []) 0 ≡ pos 0
  pub loose : conflict_aware (two_flows 4) 2 (1 ∷ 0 ∷ []) 1 ≡ pos 1
  -- with both deadlines 3: laxity -1 for 0→2 of flow 1
  pub negative : conflict_aware (two_flows 3) 2 (1 ∷ 0 ∷ []) 0 ≡ negsuc 0
  -- without regard to conflicts it is 1, and what is not released has 0
  pub plain : least_laxity (two_flows 4) 2 (1 ∷ 0 ∷ []) 0 ≡ pos 1
  pub unreleased : conflict_aware (two_flows 4) 6 (2 ∷ 0 ∷ []) 1 ≡ pos 0
  -- quick fills the frame with deadlines 3 and 4, and misses in slot 3 with both deadlines 3
  pub filled : quick_outcome (two_flows 4) conflict_aware ≡ grid (at 1 1 0 1 1 ∷ at 2 0 2 1 2 ∷ at 3 3 0 2 1 ∷ at 4 0 2 2 2 ∷ [])
  pub late : quick_outcome (two_flows 3) conflict_aware ≡ miss 3
  -- there are three lawful grids, and none with both deadlines 3
  pub three : grid_count (two_flows 4) ≡ 3
  pub none : grid_count (two_flows 3) ≡ 0
  -- without flows the empty grid is found, and it is the only one
  pub empty : quick_outcome (frame_of [] 32767) conflict_aware ≡ grid []
  pub one : grid_count (frame_of [] 32767) ≡ 1
  -- period 4, deadline 3: packet 1 is released in slot 5 and due by slot 7
  pub released : (leg_of_packet (flow_from 1 1 3) 1 1 (1 ∷ 0 ∷ 2 ∷ [])).release ≡ 5
  pub due : (leg_of_packet (flow_from 1 1 3) 1 1 (1 ∷ 0 ∷ 2 ∷ [])).due ≡ 7
  -- map 32,767 gives 15 channels
  pub channels : ones 32767 ≡ 15
