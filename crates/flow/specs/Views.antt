-- What the types hold, as lists.
use Rattle.std.specs.Prelude.{ℕ, List}
use Rattle.byte_list.specs.Bytes.{bytes_in}
use Rattle.flow.specs.declared.route.Route.{Route}

-- the devices of a route
abbrev pub devices_in : Route → List ℕ
devices_in r = bytes_in r.devices
