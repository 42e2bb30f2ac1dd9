-- The journal: a plain book of the changes that were granted. It is fed only with the calls and their arguments.
use Rattle.std.specs.Prelude.{ℕ, List, [], ◌∷◌, ◌++◌, length, Some, None, Ok, Err, Option, Result, ◌==◌, nat_le}
use Rattle.flow.specs.Flows.{FlowSpec}
use Rattle.flow.specs.Outcomes.{unless, and_then, given}
use Rattle.table.specs.declared.fault.PlanFault.{PlanFault}
use Rattle.table.specs.declared.fault.PlanRule.TheVariants.{Channels, Changes, Nothing}
use Rattle.table.specs.Force.{enter, leave}
use Rattle.table.specs.Vetting.{at_no_flow, when, outside, vetted, retire_fault}
use Rattle.calls.specs.Calls.{Call, admit, retire, set_map, undo, settle}

-- a change to a plan
pub data Change : Type 0 where
  adds : FlowSpec → Change
  removes : (number : ℕ) → Change
  maps : (channels : ℕ) → Change

-- what a plan is at a moment: the flows in force and the channel map
pub record Standing : Type 0 where
  pub flows : List FlowSpec
  pub channels : ℕ

-- a new plan: no flows, all 15 channels
abbrev pub fresh : Standing
fresh = record { flows = []; channels = 32767 }

-- one change
abbrev pub play : Change → Standing → Standing
play (adds f) s = record { flows = enter f s.flows; channels = s.channels }
play (removes n) s = record { flows = leave n s.flows; channels = s.channels }
play (maps c) s = record { flows = s.flows; channels = c }

-- changes, the oldest first
abbrev pub play_all : List Change → Standing → Standing
play_all [] s = s
play_all (c ∷ cs) s = play_all cs (play c s)

-- the granted changes, the oldest first: those settled, and those listed, which undo can strike
pub record Journal : Type 0 where
  pub settled : List Change
  pub listed : List Change

-- the journal of a new plan
abbrev pub blank : Journal
blank = record { settled = []; listed = [] }

-- the plan after all changes
abbrev pub standing : Journal → Standing
standing j = play_all j.listed (play_all j.settled fresh)

-- why a map cannot be set: it is 0, or its bit 15 is set
abbrev pub map_fault : ℕ → Option PlanFault
map_fault c = when (outside 1 32767 c) (at_no_flow Channels)

-- the change list is full; a flow is named, if there is one
abbrev pub full : Option ℕ → PlanFault
full flow = record { flow = flow; rule = Changes }

-- there is no place for one more change
abbrev pub list_fault : Option ℕ → List Change → Option PlanFault
list_fault flow cs = when (nat_le 16 (length cs)) (full flow)

-- one more change is listed, if there is a place
abbrev pub noted : Option ℕ → Change → Journal → Result Journal PlanFault
noted flow c j = unless (list_fault flow j.listed) (Ok (record { settled = j.settled; listed = j.listed ++ c ∷ [] }))

-- changes without the newest
abbrev pub but_newest : List Change → List Change
but_newest [] = []
but_newest (c ∷ []) = []
but_newest (c ∷ d ∷ ds) = c ∷ but_newest (d ∷ ds)

-- the newest change is struck, if there is one
abbrev pub struck : Journal → Result Journal PlanFault
struck j =
    unless (when (length j.listed == 0) (at_no_flow Nothing))
    (Ok (record { settled = j.settled; listed = but_newest j.listed }))

-- the journal after a call, or the first refusal that is due
abbrev pub called : Call → Journal → Result Journal PlanFault
called (admit n p d routes) j = and_then (vetted n p d routes (standing j).flows) (λ f. noted (Some n) (adds f) j)
called (retire n) j = unless (retire_fault n (standing j).flows) (noted (Some n) (removes n) j)
called (set_map c) j = unless (map_fault c) (noted None (maps c) j)
called undo j = struck j
called settle j = Ok (record { settled = j.settled ++ j.listed; listed = [] })

-- the answer to a call: granted, or the refusal
abbrev pub answer : Call → Journal → Result (Unit {0}) PlanFault
answer call j = given (λ _. tt) (called call j)

-- the journal as a result leaves it: a refused call alters nothing
abbrev pub left : Result Journal PlanFault → Journal → Journal
left (Ok k) j = k
left (Err e) j = j

-- the journal after a call
abbrev pub after : Call → Journal → Journal
after call j = left (called call j) j
