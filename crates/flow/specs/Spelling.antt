-- What the bytes of routes mean, without a word on how they are read.
use Rattle.std.specs.Prelude.{◌≡◌, ℕ, ◌≤◌, true, List, [], ◌∷◌, ◌++◌, length, Ok, Err, Result, ◌≢◌}
use Rattle.std.specs.List.{AllByRecursion}
use Rattle.flow.specs.declared.fault.RouteFault.{RouteFault}
use Rattle.flow.specs.Rules.{lawful, all_agree}

-- the bytes of routes: for each its number of devices, then the devices
abbrev pub spelled : List (List ℕ) → List ℕ
spelled [] = []
spelled (ds ∷ routes) = length ds ∷ (ds ++ spelled routes)

-- a route: 2 to 9 different devices from 0 to 100, the gateway among them
pub record IsRoute (ds : List ℕ) : Type 0 where
  pub least : 2 ≤ length ds
  pub most : length ds ≤ 9
  pub ok : lawful ds ≡ true

-- the routes of a flow: one to three, all with the same first and the same last device
pub record AreRoutes (routes : List (List ℕ)) : Type 0 where
  pub some : 1 ≤ length routes
  pub few : length routes ≤ 3
  pub each : AllByRecursion IsRoute routes
  pub ends : all_agree routes ≡ true

-- bytes are read as the routes that they spell, and refused only where they spell none
abbrev pub Meant : List ℕ → Result (List (List ℕ)) RouteFault → Type 0
Meant bytes (Ok routes) = AreRoutes routes × (spelled routes ≡ bytes)
Meant bytes (Err fault) = (routes : List (List ℕ)) → AreRoutes routes → spelled routes ≢ bytes
