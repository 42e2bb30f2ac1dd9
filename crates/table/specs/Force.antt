-- The flows in force: a list in rising order of their numbers.
use Rattle.std.specs.Prelude.{ℕ, Bool, true, false, cond, ◌&&◌, ◌||◌, List, [], ◌∷◌, ◌==◌, nat_lt}
use Rattle.flow.specs.Flows.{FlowSpec}

-- a flow of number n is in force
abbrev pub in_force : ℕ → List FlowSpec → Bool
in_force n [] = false
in_force n (g ∷ gs) = g.number == n || in_force n gs

-- the flows with f at its place
abbrev pub enter : FlowSpec → List FlowSpec → List FlowSpec
enter f [] = f ∷ []
enter f (g ∷ gs) = cond (nat_lt g.number f.number) (g ∷ enter f gs) (f ∷ g ∷ gs)

-- the flows without that of number n
abbrev pub leave : ℕ → List FlowSpec → List FlowSpec
leave n [] = []
leave n (g ∷ gs) = cond (g.number == n) gs (g ∷ leave n gs)

-- every number is above n
abbrev pub above : ℕ → List FlowSpec → Bool
above n [] = true
above n (g ∷ gs) = nat_lt n g.number && above n gs

-- the numbers rise
abbrev pub rising : List FlowSpec → Bool
rising [] = true
rising (g ∷ gs) = above g.number gs && rising gs
