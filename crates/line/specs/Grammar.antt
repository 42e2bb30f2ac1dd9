-- The grammar of a line: bytes without the newline, read into a call.
use Rattle.std.specs.Prelude.{ℕ, ◌+◌, ◌-◌, ◌*◌, min, Bool, true, false, cond, not, ◌&&◌, ◌||◌, List, [], ◌∷◌, ◌++◌, length, Some, None, Option, ◌==◌, nat_le, slice_index, fold}
use Rattle.std.specs.List.{list_all, slice_split}
use Rattle.std.specs.Char.{is_ascii_digit}
use Rattle.std.specs.Bool.{then_some}
use Rattle.std.specs.Option.{option_map, option_and_then}
use Rattle.calls.specs.Calls.{Call, admit, retire, set_map, undo, settle}

-- what the second step makes of the first one's answer
infixr 20 ◌then◌
abbrev pub ◌then◌ : {A B : Type 0} → Option A → (A → Option B) → Option B
◌then◌ o f = option_and_then f o

-- the pieces between the separators: n separators give n + 1 pieces
abbrev pub split_at : ℕ → List ℕ → List (List ℕ)
split_at separator text = slice_split (λ x. x == separator) text

-- the number that the digits continue
abbrev pub value_from : ℕ → List ℕ → ℕ
value_from value digits = fold (λ v x. v * 10 + (x - 48)) value digits

-- one to five bytes, and '0' (48) in front only alone
abbrev pub is_shaped : List ℕ → Bool
is_shaped field =
    nat_le 1 (length field) && (nat_le (length field) 5 && (length field == 1 || not (slice_index field 0 == 48)))

-- one to five digits without a leading zero
abbrev pub is_number : List ℕ → Bool
is_number field = is_shaped field && list_all is_ascii_digit field

-- the number of a field; what is too large becomes the largest
abbrev pub number : ℕ → List ℕ → Option ℕ
number largest field = then_some (is_number field) (min (value_from 0 field) largest)

-- the devices of a route, each of 8 bits
abbrev pub devices : List (List ℕ) → Option (List ℕ)
devices [] = Some []
devices (piece ∷ pieces) = number 255 piece then (λ d. option_map (λ ds. d ∷ ds) (devices pieces))

-- the bytes of a route: its number of devices, then the devices, which '-' (45) joins
abbrev pub route : List ℕ → Option (List ℕ)
route field = option_map (λ ds. length ds ∷ ds) (devices (split_at 45 field))

-- the bytes of all routes
abbrev pub routes : List (List ℕ) → Option (List ℕ)
routes [] = Some []
routes (field ∷ fields) = route field then (λ bytes. option_map (λ more. bytes ++ more) (routes fields))

-- the number of the first field, of 16 bits, with the fields behind it
abbrev pub next_number_of : List (List ℕ) → Option (ℕ × List (List ℕ))
next_number_of [] = None
next_number_of (field ∷ fields) = option_map (λ n. (n, fields)) (number 65535 field)

-- no field is left
abbrev pub is_empty : List (List ℕ) → Bool
is_empty [] = true
is_empty (field ∷ fields) = false

-- a value, if no field is left
abbrev pub alone : {A : Type 0} → A → List (List ℕ) → Option A
alone x fields = then_some (is_empty fields) x

-- exactly one number
abbrev pub only_number_of : List (List ℕ) → Option ℕ
only_number_of fields = next_number_of fields then (λ n. alone n.0 n.1)

-- flow, period, deadline, and any number of routes
abbrev pub admission : List (List ℕ) → Option Call
admission fields =
    next_number_of fields then (λ flow. next_number_of flow.1 then (λ period. next_number_of period.1 then (λ deadline.
    option_map (admit flow.0 period.0 deadline.0) (routes deadline.1))))

-- the call of a letter, one of 'A' (65), 'R' (82), 'C' (67), 'U' (85) and 'K' (75), with its fields
abbrev pub call_by : ℕ → List (List ℕ) → Option Call
call_by letter fields =
    cond (letter == 65) (admission fields)
    (cond (letter == 82) (option_map retire (only_number_of fields))
    (cond (letter == 67) (option_map set_map (only_number_of fields))
    (cond (letter == 85) (alone undo fields)
    (cond (letter == 75) (alone settle fields) None))))

-- the call of a field, which is one letter, and of the fields behind it
abbrev pub call_with : List ℕ → List (List ℕ) → Option Call
call_with [] fields = None
call_with (letter ∷ []) fields = call_by letter fields
call_with (letter ∷ more ∷ bytes) fields = None

-- the call of all fields
abbrev pub call_of_fields : List (List ℕ) → Option Call
call_of_fields [] = None
call_of_fields (field ∷ fields) = call_with field fields

-- the call of a line, of at most 160 bytes; spaces (32) part its fields
abbrev pub read_line_of : List ℕ → Option Call
read_line_of line = cond (nat_le (length line) 160) (call_of_fields (split_at 32 line)) None
