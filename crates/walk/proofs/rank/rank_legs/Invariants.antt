use Rattle.std.proofs.Common.{◌≡◌}
use Rattle.frame.specs.Frames.{frame_spec}
use Rattle.frame.specs.States.{released}
use Rattle.walk.specs.Stacks.{entries, room_of}
use Rattle.walk.proofs.Sorting.{listed}
use Rattle.walk.proofs.rank.rank_legs.Given as goal

abbrev pub invariant-loop-leg : goal.invariant-loop-leg
invariant-loop-leg g l = record {
  ranked :
      entries l.ranked ≡ listed (g.R.Ranking.key l.ranking (frame_spec l.moment.frame.now) l.moment.slot l.moment.progress.now)
      (released (frame_spec l.moment.frame.now) l.moment.slot l.moment.progress.now) l.leg;
  whole : room_of l.ranked ≡ room_of l.initial.ranked;
}
