-- The rules of one route: a list of devices, the gateway being device 0.
use Rattle.std.specs.Prelude.{ℕ, ◌-◌, Bool, true, not, ◌&&◌, List, [], ◌∷◌, length, position, is_some, Option, ◌==◌, nat_lt, slice_index}
use Rattle.std.specs.List.{list_any}
use Rattle.flow.specs.First.{first}

-- the index of the first device above 100
abbrev pub first_unknown_of : List ℕ → Option ℕ
first_unknown_of ds = position (λ d. nat_lt 100 d) ds

-- the device at index i stands earlier in the route
abbrev pub repeats : List ℕ → ℕ → Bool
repeats ds i = is_some (first (λ j. slice_index ds j == slice_index ds i) i)

-- the first such index
abbrev pub first_repeat_of : List ℕ → Option ℕ
first_repeat_of ds = first (repeats ds) (length ds)

-- the gateway is among the devices
abbrev pub has_gateway_in : List ℕ → Bool
has_gateway_in ds = list_any (λ d. d == 0) ds

-- different devices from 0 to 100, the gateway among them
abbrev pub lawful : List ℕ → Bool
lawful ds = not (is_some (first_unknown_of ds)) && (not (is_some (first_repeat_of ds)) && has_gateway_in ds)

-- the first device
abbrev pub first_of : List ℕ → ℕ
first_of ds = slice_index ds 0

-- the last device
abbrev pub last_of : List ℕ → ℕ
last_of ds = slice_index ds (length ds - 1)

-- two routes begin alike and end alike
abbrev pub same_ends_of : List ℕ → List ℕ → Bool
same_ends_of xs ys = first_of xs == first_of ys && last_of xs == last_of ys

-- every route has the ends of ds
abbrev pub ends_agree : List ℕ → List (List ℕ) → Bool
ends_agree ds [] = true
ends_agree ds (e ∷ es) = same_ends_of ds e && ends_agree ds es

-- every route has the ends of the first
abbrev pub all_agree : List (List ℕ) → Bool
all_agree [] = true
all_agree (d ∷ ds) = ends_agree d ds
