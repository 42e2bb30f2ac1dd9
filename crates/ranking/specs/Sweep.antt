-- One pass over the hops at a device, by the ends of their lifetimes, that finds the least slack.
use Rattle.std.specs.Prelude.{ℕ, ◌+◌, ◌-◌, max, Bool, false, cond, ◌||◌, List, ℤ, pos, ◌+ℤ◌, ◌-ℤ◌, None, fold, int_le, nat_le}
use Rattle.std.specs.Bool.{then_some}
use Rattle.std.specs.Int.{int_min}
use Rattle.std.specs.Option.{option_map_or}
use Rattle.frame.specs.declared.visit.Visit.{Visit}
use Rattle.frame.specs.States.{done_of}
use Rattle.frame.specs.Visits.{end_of}
use Rattle.ranking.specs.declared.sweep.Sweep.{Sweep}

-- the hop is undone
abbrev pub visit_undone : List ℕ → Visit → Bool
visit_undone p v = nat_le (done_of p v.leg) v.place

-- r of an undone hop; its d is `end_of` the visit
abbrev pub visit_first : ℕ → List ℕ → Visit → ℕ
visit_first s p v = max v.release s + (v.place - done_of p v.leg)

-- the end b of one more undone hop counts: its r is in time, or that of one before it with the same end
abbrev pub is_live_end : Bool → ℤ → Sweep → Bool
is_live_end timely b w = timely || option_map_or (int_le b) w.live false

-- the pass after one more undone hop, which ends at b
abbrev pub passed : ℕ → Bool → ℤ → Sweep → Sweep
passed s timely b w = record {
  count = w.count + 1;
  live = then_some (is_live_end timely b w) b;
  best = cond (is_live_end timely b w) (int_min w.best (((b -ℤ pos s) +ℤ pos 1) -ℤ pos (w.count + 1))) w.best;
}

-- the pass after one more hop; hops that are done are passed over
abbrev pub met : ℕ → ℤ → List ℕ → Sweep → Visit → Sweep
met s d p w v = cond (visit_undone p v) (passed s (int_le (pos (visit_first s p v)) d) (end_of v) w) w

-- no hop is met yet
abbrev pub started : ℤ → Sweep
started plain = record { count = 0; live = None; best = plain }

-- the least of the plain laxity of a hop that ends at d, and the slacks that the pass finds
abbrev pub least_slack_of : ℕ → ℤ → List ℕ → List Visit → ℤ
least_slack_of s d p vs = (fold (met s d p) (started (d -ℤ pos s)) vs).best
