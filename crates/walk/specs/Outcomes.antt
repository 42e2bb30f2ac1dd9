-- What quick gives.
use Rattle.std.specs.Prelude.{ℕ, List, ◌++◌, length, take, drop, ℤ, Some, None, Ok, Err, Option, Result}
use Rattle.frame.specs.declared.placement.Placement.{Placement}
use Rattle.frame.specs.Frames.{FrameSpec}
use Rattle.frame.specs.Sets.{ranked, by_key}
use Rattle.frame.specs.Quick.{Order, Ended, filled, missed, quick_walk_of, untouched, placed_all}
use Rattle.frame.specs.Grids.{ShowsLawfulGrid}
use Rattle.walk.specs.declared.short.Short.{Short}
use Rattle.walk.specs.declared.answer.QuickAnswer.{QuickAnswer}
use Rattle.walk.specs.declared.answer.QuickAnswer.TheVariants.{Grid, Missed}

-- the key of a leg at a slot and progress of a frame
abbrev pub Keys : Type 0
Keys = FrameSpec → ℕ → List ℕ → ℕ → ℤ

-- the order of released hops that the keys give
abbrev pub order_by : FrameSpec → Keys → Order
order_by f key s p = ranked f (by_key (key f s p)) s p

-- a grid by its placements, or the slot where it was missed
pub data Outcome : Type 0 where
  grid : List Placement → Outcome
  miss : (slot : ℕ) → Outcome

abbrev pub outcome_of : FrameSpec → Ended → Outcome
outcome_of f (filled sets) = grid (placed_all f 1 (untouched f) sets)
outcome_of f (missed s) = miss s

-- what quick gives for a frame, ranked by the keys
unfoldable pub quick_outcome : FrameSpec → Keys → Outcome
quick_outcome f key = outcome_of f (quick_walk_of f (order_by f key))

-- the answer
abbrev pub answered : Outcome → QuickAnswer
answered (grid ps) = Grid (length ps)
answered (miss s) = Missed s

-- the grid's memory afterwards: written at its front only when a grid is found
abbrev pub written : Outcome → List Placement → List Placement
written (grid ps) room = ps ++ drop (length ps) room
written (miss s) room = room

-- the grid's memory after a call that may be refused
abbrev pub grid_after : Option Short → Outcome → List Placement → List Placement
grid_after None outcome room = written outcome room
grid_after (Some short) outcome room = room

-- where a grid is answered, the memory's front shows a lawful grid of the frame
abbrev pub HandsOver : FrameSpec → Result QuickAnswer Short → List Placement → Type 0
HandsOver f (Ok (Grid n)) room = ShowsLawfulGrid f (take n room)
HandsOver f (Ok (Missed s)) room = Unit {0}
HandsOver f (Err short) room = Unit {0}
