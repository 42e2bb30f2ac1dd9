use Rattle.std.proofs.Common.{◌≡◌}
use Rattle.walk.specs.Filling.{legs_of}
use Rattle.walk.specs.Walks.{stand}
use Rattle.walk.proofs.Slots.{so_far}
use Rattle.walk.proofs.walking.Walk.fill.Given as goal

abbrev pub invariant-loop-entry : goal.invariant-loop-entry
invariant-loop-entry l = stand l.self ≡ so_far l.slot (legs_of l.order) l.entry-index (stand l.initial.self)
