-- What a check that gave a result says of the fault that was due.
use Rattle.std.proofs.Common.{◌≡◌, Some, None, Ok, Err, Option, Result, refl, arith}
use Rattle.flow.specs.Outcomes.{unless, and_then}

-- the result of a check alone
abbrev pub checked : {E : Type 0} → Option E → Result (Unit {0}) E
checked o = unless o (Ok tt)

-- a check that let a value through lets any result through
pub unless-passed : {A B E : Type 0} (o : Option E) (x y : A) (r : Result B E) → Ok y ≡ unless o (Ok x) → unless o r ≡ r
unless-passed None x y r e = refl
unless-passed (Some f) x y r e = absurd (grind arith)

-- a check that refused a value refuses any result
pub unless_refused : {A B E : Type 0} (o : Option E) (x : A) (f : E) (r : Result B E) → Err f ≡ unless o (Ok x) → unless o r ≡ Err f
unless_refused None x f r e = absurd (grind arith)
unless_refused (Some g) x f r e = let same : g ≡ f = cc in cc

-- what gives a value in two steps gives one in the first
pub then_ok : {A B E : Type 0} (r : Result A E) (f : A → Result B E) (y : B) → and_then r f ≡ Ok y → (x : A) × (r ≡ Ok x) × (f x ≡ Ok y)
then_ok (Ok x) f y e = (x, refl, e)
then_ok (Err f) g y e = absurd (grind arith)

-- no fault was due where there is a value
pub unless-ok : {A E : Type 0} (o : Option E) (r : Result A E) (y : A) → unless o r ≡ Ok y → (o ≡ None) × (r ≡ Ok y)
unless-ok None r y e = (refl, e)
unless-ok (Some f) r y e = absurd (grind arith)
