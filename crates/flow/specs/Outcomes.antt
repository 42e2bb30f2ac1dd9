-- Faults and results, put together.
use Rattle.std.specs.Prelude.{Some, None, Ok, Err, Option, Result}

-- the first fault of two, in their order
abbrev pub or_else : {E : Type 0} → Option E → Option E → Option E
or_else None later = later
or_else (Some e) later = Some e

-- a fault that is due is the result, else the result is r
abbrev pub unless : {A E : Type 0} → Option E → Result A E → Result A E
unless None r = r
unless (Some e) r = Err e

-- the result of f at what r gives, or r's fault
abbrev pub and_then : {A B E : Type 0} → Result A E → (A → Result B E) → Result B E
and_then (Ok x) f = f x
and_then (Err e) f = Err e

-- r with f at what it gives
abbrev pub given : {A B E : Type 0} → (A → B) → Result A E → Result B E
given f (Ok x) = Ok (f x)
given f (Err e) = Err e
