-- Each number is computed.
use mathlib.Core.Path.{refl}
use lib.Count.{ones}
use Rattle.legs.specs.Expand.{frame_of}
use Rattle.walk.specs.Outcomes.{quick_outcome}
use Rattle.worked.specs.Worked.{Worked}

pub worked : Worked
unfolding frame_of quick_outcome ones
worked = record {
  tight = refl;
  loose = refl;
  negative = refl;
  plain = refl;
  unreleased = refl;
  filled = refl;
  late = refl;
  three = refl;
  none = refl;
  empty = refl;
  one = refl;
  released = refl;
  due = refl;
  channels = refl;
}
