-- Worked examples.
use Rattle.std.proofs.Common.{◌≡◌, ℕ, List, [], ◌∷◌, refl}
use Rattle.flow.specs.Flows.{FlowSpec}
use Rattle.table.specs.Frame.{frame}
use Rattle.frame.specs.declared.hop.Hop.{Hop}
use Rattle.frame.specs.Legs.{LegSpec}
use Rattle.legs.specs.Expand.{leg_of_packet, legs_of}

-- flow 1: every 4 slots, due within 3, from device 2 to the gateway over device 1 and over device 3
slow : FlowSpec
slow = record { number = 1; period = 4; deadline = 3; routes = (2 ∷ 1 ∷ 0 ∷ []) ∷ (2 ∷ 3 ∷ 0 ∷ []) ∷ [] }

-- flow 2: every 2 slots, due within 2, from the gateway to device 3
fast : FlowSpec
fast = record { number = 2; period = 2; deadline = 2; routes = (0 ∷ 3 ∷ []) ∷ [] }

-- packet 1 of flow 1 is released in slot 5 and due by slot 7
second_packet : ((leg_of_packet slow 1 1 (2 ∷ 1 ∷ 0 ∷ [])).release ≡ 5) × ((leg_of_packet slow 1 1 (2 ∷ 1 ∷ 0 ∷ [])).due ≡ 7)
unfolding slow
second_packet = (refl, refl)

-- a leg of so many hops between the devices
leg : ℕ → ℕ → ℕ → ℕ → List Hop → LegSpec
leg n k a b hs = record { flow = n; route = k; release = a; due = b; hops = hs }

-- their frame of 4 slots: one packet of flow 1 on two routes, and two of flow 2
both : legs_of (frame (slow ∷ fast ∷ [])) (slow ∷ fast ∷ [])
    ≡ leg 1 1 1 3 (record { sender = 2; receiver = 1 } ∷ record { sender = 1; receiver = 0 } ∷ [])
    ∷ leg 1 2 1 3 (record { sender = 2; receiver = 3 } ∷ record { sender = 3; receiver = 0 } ∷ [])
    ∷ leg 2 1 1 2 (record { sender = 0; receiver = 3 } ∷ [])
    ∷ leg 2 1 3 4 (record { sender = 0; receiver = 3 } ∷ [])
    ∷ []
unfolding slow fast leg
both = refl
