-- Walks under way.
use Rattle.std.specs.Prelude.{◌≡◌, ℕ, ◌+◌, List, [], ◌∷◌, ◌++◌, length, if◌then◌else◌, slice_set}
use Rattle.frame.specs.declared.moment.Moment.{Moment}
use Rattle.frame.specs.declared.placement.Placement.{Placement}
use Rattle.frame.specs.Frames.{FrameSpec, frame_spec}
use Rattle.frame.specs.States.{done_of}
use Rattle.frame.specs.Sets.{sent}
use Rattle.frame.specs.Quick.{untouched, placed_from, first_set}
use Rattle.walk.specs.Filling.{next_cell, can_join}
use Rattle.walk.specs.Outcomes.{Keys, order_by}
use Rattle.walk.specs.Stacks.{entries}
use Rattle.walk.specs.declared.walking.Walk.{Walk}

-- where a walk stands: its frame, the placements so far, where each slot begins in them, and the hops done of each leg
pub record Stand : Type 0 where
  pub frame : FrameSpec
  pub trail : List Placement
  pub marks : List ℕ
  pub progress : List ℕ

-- what a walk in lent memory shows of it
abbrev pub stand : Walk → Stand
stand w = record {
  frame = frame_spec w.frame.now;
  trail = entries w.trail;
  marks = entries w.marks;
  progress = w.progress.now;
}

-- before the first slot
abbrev pub start : FrameSpec → Stand
start f = record { frame = f; trail = []; marks = []; progress = untouched f }

-- a slot begins
abbrev pub marked : Stand → Stand
marked w = record w { marks = w.marks ++ length w.trail ∷ [] }

-- the next hop of a leg is placed in the slot, whose placements stand from `mark` on, if it can join them
abbrev pub joined : ℕ → ℕ → ℕ → Stand → Stand
joined slot mark leg w =
    let joins = can_join w.frame slot w.progress leg mark w.trail in
    record {
      frame = w.frame;
      trail = if joins then w.trail ++ next_cell w.frame slot w.progress leg mark w.trail ∷ [] else w.trail;
      marks = w.marks;
      progress = if joins then slice_set w.progress leg (done_of w.progress leg + 1) else w.progress;
    }

-- a set is sent in a slot
abbrev pub with_set : ℕ → List ℕ → Stand → Stand
with_set slot set w = record {
  frame = w.frame;
  trail = w.trail ++ placed_from w.frame slot w.progress 0 set;
  marks = w.marks;
  progress = sent set w.progress;
}

-- the first set of a state is sent
abbrev pub entered : Keys → ℕ → Stand → Stand
entered key slot w = with_set slot (first_set w.frame (order_by w.frame key) slot w.progress) (marked w)

-- a moment of a walk in a slot
pub record IsMomentOf (w : Stand) (n : ℕ) (m : Moment) : Type 0 where
  pub frame : frame_spec m.frame.now ≡ w.frame
  pub slot : m.slot ≡ n
  pub progress : m.progress.now ≡ w.progress
