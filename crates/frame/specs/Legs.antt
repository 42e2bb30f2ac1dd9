-- Legs as the rules see them.
use Rattle.std.specs.Prelude.{ℕ, Bool, true, ◌&&◌, List, [], ◌∷◌, length, take, sum_by, nat_le}
use Rattle.frame.specs.declared.hop.Hop.{Hop}
use Rattle.frame.specs.declared.leg.Leg.{Leg}

-- one packet on one route: its hops, of any number, are sent in order, from slot `release` on and not after slot `due`
pub record LegSpec : Type 0 where
  pub flow : ℕ
  pub route : ℕ
  pub release : ℕ
  pub due : ℕ
  pub hops : List Hop

-- what the rules see of a leg
abbrev pub leg_spec : Leg → LegSpec
leg_spec l = record { flow = l.flow; route = l.route; release = l.release; due = l.due; hops = take l.count l.hops }

-- every leg is due by slot t
abbrev pub all_due_by : ℕ → List LegSpec → Bool
all_due_by t [] = true
all_due_by t (l ∷ ls) = nat_le l.due t && all_due_by t ls

-- the hops of all legs
abbrev pub hop_total : List LegSpec → ℕ
hop_total legs = sum_by (λ l. length l.hops) legs

-- past the last leg stands one without hops, and past a leg's last hop one from device 0 to device 0
abbrev pub no_hop : Hop
no_hop = record { sender = 0; receiver = 0 }

abbrev pub no_leg : LegSpec
no_leg = record { flow = 0; route = 0; release = 0; due = 0; hops = [] }
