-- What a call of quick answers, and what it leaves in the memory that it is lent.
use Rattle.std.specs.Prelude.{◌≡◌, ℕ, List, length, Option, Result}
use Rattle.frame.specs.declared.placement.Placement.{Placement}
use Rattle.frame.specs.Frames.{FrameSpec}
use Rattle.walk.specs.declared.short.Short.{Short}
use Rattle.walk.specs.declared.answer.QuickAnswer.{QuickAnswer}
use Rattle.walk.specs.Memory.{short_of, unless_short, Spared}
use Rattle.walk.specs.Outcomes.{Keys, quick_outcome, answered, grid_after, HandsOver}

-- the four memories
pub record Lent : Type 0 where
  pub trail : List Placement
  pub marks : List ℕ
  pub progress : List ℕ
  pub grid : List Placement

abbrev pub lent : List Placement → List ℕ → List ℕ → List Placement → Lent
lent trail marks progress grid = record { trail = trail; marks = marks; progress = progress; grid = grid }

-- the first of them that is too short for the frame
abbrev pub short_in : FrameSpec → Lent → Option Short
short_in f m = short_of f (length m.trail) (length m.marks) (length m.progress) (length m.grid)

-- quick on a frame, ranked by the keys. What trail, marks and progress hold afterwards is open, unless it was refused
pub record Runs (f : FrameSpec) (key : Keys) (before after : Lent) (r : Result QuickAnswer Short) : Type 0 where
  -- refused where a memory is too short, else the answer of the quick walk
  pub gives : r ≡ unless_short (short_in f before) (answered (quick_outcome f key))
  -- the grid is written at its front exactly where one is found
  pub wrote : after.grid ≡ grid_after (short_in f before) (quick_outcome f key) before.grid
  -- a refusal leaves the others as they were too
  pub spared : Spared r before.trail after.trail × Spared r before.marks after.marks
      × Spared r before.progress after.progress
  -- a grid that is handed over is lawful
  pub lawful : HandsOver f r after.grid
