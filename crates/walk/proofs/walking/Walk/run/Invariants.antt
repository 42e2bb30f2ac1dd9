use Rattle.std.proofs.Common.{◌≡◌, ◌+◌, ◌-◌}
use Rattle.walk.specs.Walks.{stand}
use Rattle.walk.specs.Stacks.{room_of}
use Rattle.walk.proofs.States.{Before}
use Rattle.walk.proofs.walking.Walk.run.Given as goal

abbrev pub invariant-loop-ranked : goal.invariant-loop-ranked
invariant-loop-ranked g l = record {
  before : Before (g.R.Ranking.key l.ranking) l.slot (stand l.self);
  room : room_of l.ranked ≡ 2048;
  frame : (stand l.self).frame ≡ (stand l.initial.self).frame;
}

abbrev pub decreases-loop-ranked : goal.decreases-loop-ranked
decreases-loop-ranked g l = (stand l.self).frame.slots + 1 - l.slot
