-- Memory that the caller lends.
use Rattle.std.specs.Prelude.{◌≡◌, ℕ, ◌+◌, cond, List, Some, None, Ok, Err, Option, Result, nat_lt}
use Rattle.frame.specs.Frames.{FrameSpec, leg_count}
use Rattle.frame.specs.Legs.{hop_total}
use Rattle.walk.specs.declared.short.Short.{Short}
use Rattle.walk.specs.declared.short.Short.TheVariants.{Trail, Marks, Progress, Grid}

-- the first memory that is too short, of the four lengths
abbrev pub short_of : FrameSpec → ℕ → ℕ → ℕ → ℕ → Option Short
short_of f trail marks progress grid =
    cond (nat_lt trail (hop_total f.legs)) (Some Trail)
    (cond (nat_lt marks (f.slots + 1)) (Some Marks)
    (cond (nat_lt progress (leg_count f)) (Some Progress)
    (cond (nat_lt grid (hop_total f.legs)) (Some Grid) None)))

-- its position among the memories that can be too short
abbrev pub position_of : Short → ℕ
position_of Trail = 1
position_of Marks = 2
position_of Progress = 3
position_of Grid = 4

-- refused where a memory is too short, else the answer
abbrev pub unless_short : {A : Type 0} → Option Short → A → Result A Short
unless_short None a = Ok a
unless_short (Some short) a = Err short

-- a refusal leaves a memory as it was
abbrev pub Spared : {A B : Type 0} → Result A Short → List B → List B → Type 0
Spared (Ok a) before after = Unit {0}
Spared (Err short) before after = after ≡ before
