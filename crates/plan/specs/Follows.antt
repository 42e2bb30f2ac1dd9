-- How a plan stands after a journal.
use Rattle.std.specs.Prelude.{◌≡◌, ◌≤◌, true, false, List, [], ◌∷◌, length}
use Rattle.flow.specs.Flows.{FlowSpec, flow_spec}
use Rattle.table.specs.Force.{in_force, enter, leave}
use Rattle.table.specs.Frame.{frame, transmissions}
use Rattle.plan.specs.declared.channels.ChannelMap.{ChannelMap}
use Rattle.plan.specs.declared.reversal.Reversal.{Reversal}
use Rattle.plan.specs.declared.reversal.Reversal.TheVariants.{Remove, Insert, Restore}
use Rattle.plan.specs.Journal.{Change, Standing, Journal, play, play_all, fresh, standing}

-- flows that a table can hold
pub record Fits (fs : List FlowSpec) : Type 0 where
  pub few : length fs ≤ 32
  pub short : frame fs ≤ 1024
  pub light : transmissions fs ≤ 2048

-- the reversal can be done in `now'`, and gives `before`
abbrev pub Reverses : Reversal → Standing → Standing → Type 0
Reverses (Remove n) now' before =
    (in_force n now'.flows ≡ true) × (leave n now'.flows ≡ before.flows) × (now'.channels ≡ before.channels)
Reverses (Insert f) now' before =
    (in_force f.number now'.flows ≡ false) × (enter (flow_spec f) now'.flows ≡ before.flows) × (now'.channels ≡ before.channels)
Reverses (Restore m) now' before = (now'.flows ≡ before.flows) × (m.bits ≡ before.channels)

-- from s on, each reversal takes its change back
abbrev pub Undoes : Standing → List Change → List Reversal → Type 0
Undoes s [] [] = Unit {0}
Undoes s [] (r ∷ rs) = ⊥
Undoes s (c ∷ cs) [] = ⊥
Undoes s (c ∷ cs) (r ∷ rs) = Fits s.flows × Reverses r (play c s) s × Undoes (play c s) cs rs

-- flows, map and change list are those of the journal
pub record Follows (j : Journal) (flows : List FlowSpec) (map : ChannelMap) (changes : List Reversal) : Type 0 where
  pub inforce : flows ≡ (standing j).flows
  pub allowed : map.bits ≡ (standing j).channels
  pub listed : Undoes (play_all j.settled fresh) j.listed changes

-- some journal gives the plan
abbrev pub Sound : List FlowSpec → ChannelMap → List Reversal → Type 0
Sound flows map changes = ∥ ((j : Journal) × Follows j flows map changes) ∥₁
