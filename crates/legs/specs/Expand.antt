-- How flows become legs, and the frame that they share.
use Rattle.std.specs.Prelude.{ℕ, ◌+◌, ◌-◌, ◌*◌, ◌/◌, List, [], ◌∷◌, count_ones}
use Rattle.std.specs.List.{range_with_len, flat_map}
use Rattle.flow.specs.Flows.{FlowSpec}
use Rattle.table.specs.Frame.{frame}
use Rattle.frame.specs.declared.hop.Hop.{Hop}
use Rattle.frame.specs.Legs.{LegSpec}
use Rattle.frame.specs.Frames.{FrameSpec}

-- the hops of a route: from each device to the next
abbrev pub hops_along_route : List ℕ → List Hop
hops_along_route [] = []
hops_along_route (a ∷ []) = []
hops_along_route (a ∷ b ∷ ds) = record { sender = a; receiver = b } ∷ hops_along_route (b ∷ ds)

-- the slot in which packet j of a flow is released
abbrev pub release_of : FlowSpec → ℕ → ℕ
release_of f j = f.period * j + 1

-- packet j of a flow on its route k, whose devices are ds
abbrev pub leg_of_packet : FlowSpec → ℕ → ℕ → List ℕ → LegSpec
leg_of_packet f j k ds =
    record { flow = f.number; route = k; release = release_of f j; due = release_of f j + f.deadline - 1; hops = hops_along_route ds }

-- packet j of a flow on the routes from k on
abbrev pub legs_from : FlowSpec → ℕ → ℕ → List (List ℕ) → List LegSpec
legs_from f j k [] = []
legs_from f j k (ds ∷ routes) = leg_of_packet f j k ds ∷ legs_from f j (k + 1) routes

-- packet j of a flow on all its routes
abbrev pub packet_legs : FlowSpec → ℕ → List LegSpec
packet_legs f j = legs_from f j 1 f.routes

-- the legs of a flow in t slots, packet after packet
abbrev pub flow_legs : ℕ → FlowSpec → List LegSpec
flow_legs t f = flat_map (packet_legs f) (range_with_len 0 (t / f.period))

-- the legs of the flows in t slots
abbrev pub legs_of : ℕ → List FlowSpec → List LegSpec
legs_of t flows = flat_map (flow_legs t) flows

-- the frame of the flows over m channels
abbrev pub frame_with_channels : List FlowSpec → ℕ → FrameSpec
frame_with_channels flows m = record { legs = legs_of (frame flows) flows; slots = frame flows; channels = m }

-- the frame of the flows over the channels of a map: the ones of the map
unfoldable pub frame_of : List FlowSpec → ℕ → FrameSpec
frame_of flows map = frame_with_channels flows (count_ones map)
