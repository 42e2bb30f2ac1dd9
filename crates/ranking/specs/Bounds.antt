-- How far laxities go.
use Rattle.std.specs.Prelude.{◌≡◌, ℕ, false, List, ℤ, pos, negsuc, ◌≤ℤ◌}
use Rattle.frame.specs.Frames.{FrameSpec}
use Rattle.frame.specs.States.{overdue}

-- from -2,047 to 1,023, where no undone hop has r > d
abbrev pub LaxityBounds : FrameSpec → ℕ → List ℕ → ℤ → Type 0
LaxityBounds f s p r = overdue f s p ≡ false → (negsuc 2046 ≤ℤ r) × (r ≤ℤ pos 1023)
