-- The calls that edit an open plan, with their arguments as the caller gives them.
use Rattle.std.specs.Prelude.{List, ℕ}

pub data Call : Type 0 where
  -- routes: for each route its number of devices, then the devices
  admit : (number period deadline : ℕ) (routes : List ℕ) → Call
  retire : (number : ℕ) → Call
  -- bit k of the map allows channel 11 + k
  set_map : (channels : ℕ) → Call
  undo : Call
  settle : Call
