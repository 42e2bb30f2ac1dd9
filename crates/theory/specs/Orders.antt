-- What an order of the released hops holds.
use Rattle.std.specs.Prelude.{◌≡◌, ℕ, true, List}
use Rattle.std.specs.List.{ContainsAt as Has}
use Rattle.frame.specs.Frames.{FrameSpec}
use Rattle.frame.specs.States.{released}
use Rattle.frame.specs.Quick.{Order}
use Rattle.frame.specs.Grids.{Distinct}

-- at each slot and progress, the order holds no leg twice, and only released ones
pub record Orders (f : FrameSpec) (order : Order) : Type 0 where
  pub distinct : (s : ℕ) (p : List ℕ) → Distinct (order s p)
  pub holds : (s : ℕ) (p : List ℕ) (i : ℕ) → Has (order s p) i → released f s p i ≡ true
