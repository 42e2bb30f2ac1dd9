-- The first set of a slot, one leg after the other.
use Rattle.std.specs.Prelude.{ℕ, Bool, cond, ◌&&◌, List, [], ◌∷◌, ◌++◌, length, nat_lt}
use Rattle.frame.specs.Frames.{FrameSpec}
use Rattle.frame.specs.Sets.{clear}

-- leg i may join the legs chosen so far: a channel is free, and its next hop shares no device with theirs
abbrev pub joins : FrameSpec → List ℕ → List ℕ → ℕ → Bool
joins f p chosen i = nat_lt (length chosen) f.channels && clear f p i chosen

-- the legs that join the chosen ones, one after the other
abbrev pub greedy : FrameSpec → List ℕ → List ℕ → List ℕ → List ℕ
greedy f p chosen [] = []
greedy f p chosen (x ∷ xs) = cond (joins f p chosen x) (x ∷ greedy f p (chosen ++ x ∷ []) xs) (greedy f p chosen xs)
