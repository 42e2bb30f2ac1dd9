-- What is left of a quick walk.
use Rattle.std.specs.Prelude.{◌≡◌, ℕ, List, ◌++◌}
use Rattle.frame.specs.declared.placement.Placement.{Placement}
use Rattle.frame.specs.Frames.{FrameSpec}
use Rattle.frame.specs.Quick.{Ended, filled, missed, placed_all}
use Rattle.walk.specs.Outcomes.{Outcome, grid, miss}

-- the outcome of a walk from slot s and progress p on
abbrev pub outcome_from : FrameSpec → ℕ → List ℕ → Ended → Outcome
outcome_from f s p (filled sets) = grid (placed_all f s p sets)
outcome_from f s p (missed t) = miss t

-- an outcome with more placements in front
abbrev pub after : List Placement → Outcome → Outcome
after trail (grid ps) = grid (trail ++ ps)
after trail (miss s) = miss s

-- the placements of a grid, where there is one, are these
abbrev pub Shows : Outcome → List Placement → Type 0
Shows (grid ps) trail = trail ≡ ps
Shows (miss s) trail = Unit {0}
