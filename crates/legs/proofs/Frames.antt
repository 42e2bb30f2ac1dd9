-- Frames as data: which frame the channels of a map give, and that frames can be told apart.
use mathlib.Core.HLevel.{Σ_set}
use Rattle.std.proofs.Common.{◌≡◌, ℕ, List, refl, ap}
use mathlib.Core.List.{is_set}
use native.Mathlib.Nat.{ℕ_set}
use ghost.Sets.{retract_set}
use lib.Count.{ones}
use Rattle.flow.specs.Flows.{FlowSpec}
use Rattle.frame.specs.declared.hop.Hop.{Hop}
use Rattle.frame.specs.Legs.{LegSpec}
use Rattle.frame.specs.Frames.{FrameSpec}
use Rattle.legs.specs.Expand.{frame_with_channels, frame_of}

-- over as many channels as the map has ones, the frame is that of the map
pub frame_of_map : (flows : List FlowSpec) (m map : ℕ) → m ≡ ones map → frame_with_channels flows m ≡ frame_of flows map
unfolding frame_of
frame_of_map flows m map is = ap (frame_with_channels flows) is

-- two equations of hops are the same
hop_set : IsSet Hop
hop_set =
    retract_set {A = Hop} {B = ℕ × ℕ} (λ h. (h.sender, h.receiver)) (λ p. record { sender = p.0; receiver = p.1 }) (λ h. refl)
    (Σ_set ℕ_set (λ _. ℕ_set))

-- of legs
leg-set : IsSet LegSpec
leg-set =
    retract_set {A = LegSpec} {B = ℕ × (ℕ × (ℕ × (ℕ × List Hop)))}
    (λ l. (l.flow, (l.route, (l.release, (l.due, l.hops)))))
    (λ p. record { flow = p.0; route = p.1.0; release = p.1.1.0; due = p.1.1.1.0; hops = p.1.1.1.1 })
    (λ l. refl)
    (Σ_set ℕ_set (λ _. Σ_set ℕ_set (λ _. Σ_set ℕ_set (λ _. Σ_set ℕ_set (λ _. is_set hop_set)))))

-- of frames
pub frame-set : IsSet FrameSpec
frame-set =
    retract_set {A = FrameSpec} {B = List LegSpec × (ℕ × ℕ)} (λ f. (f.legs, (f.slots, f.channels)))
    (λ p. record { legs = p.0; slots = p.1.0; channels = p.1.1 }) (λ f. refl)
    (Σ_set (is_set leg-set) (λ _. Σ_set ℕ_set (λ _. ℕ_set)))
