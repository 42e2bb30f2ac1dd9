-- The bytes of an answer.
use Rattle.std.specs.Prelude.{ℕ, List, ◌∷◌, ◌++◌, codes, decimal, Result, Ok, Err}
use Rattle.answer.specs.declared.refusal.Refusal.{Refusal}

-- a number in decimal, with a space before it
abbrev pub spaced : ℕ → List ℕ
spaced n = 32 ∷ decimal n

-- ` NUMBER FLOW ROUTE POSITION`
abbrev pub refusal_bytes : Refusal → List ℕ
refusal_bytes r = spaced r.number ++ (spaced r.flow ++ (spaced r.route ++ spaced r.position))

-- `LINE ok`, or `LINE refused NUMBER FLOW ROUTE POSITION`, and the end of the line
abbrev pub answer_bytes : ℕ → Result (Unit {0}) Refusal → List ℕ
answer_bytes line (Ok _) = decimal line ++ codes " ok\n"
answer_bytes line (Err r) = decimal line ++ (codes " refused" ++ (refusal_bytes r ++ codes "\n"))
