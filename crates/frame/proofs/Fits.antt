-- A progress fits the legs exactly where it has a number for each leg, none above the leg's hops.
use Rattle.std.proofs.Common.{◌≡◌, ℕ, zero, suc, ◌<◌, ◌≤◌, Bool, true, false, ◌&&◌, leb, List, [], ◌∷◌, map, length, get_or, sym, refl, ap, ◌∙◌, arith}
use Rattle.std.proofs.lemmas.Bool.{and_parts, and_from, leb-true, le-leb}
use Rattle.std.specs.List.{list_all, zip}
use Rattle.frame.specs.declared.leg.Leg.{Leg}
use Rattle.frame.specs.Legs.{LegSpec, leg_spec}
use Rattle.frame.specs.Frames.{no_leg}
use Rattle.frame.specs.States.{fits}
use Rattle.frame.proofs.Reading.{leg-size}

-- a number for each leg, none above the leg's hops
pub record Fitting (ls : List LegSpec) (p : List ℕ) : Type 0 where
  pub each : length p ≡ length ls
  pub most : (i : ℕ) → i < length ls → get_or p i 0 ≤ length (get_or ls i no_leg).hops

-- what the test says
pub fitting : (ls : List LegSpec) (p : List ℕ) → fits ls p ≡ true → Fitting ls p
fitting [] [] e = record { each = refl; most = λ i h. absurd (omega arith) }
fitting [] (n ∷ ns) e = absurd (grind arith)
fitting (l ∷ ls) [] e = absurd (grind arith)
fitting (l ∷ ls) (n ∷ ns) e =
    let parts = and_parts (leb n (length l.hops)) (fits ls ns) e in
    let rest = fitting ls ns parts.1 in
    record { each = omega (arith, rest.each); most = most (leb-true n (length l.hops) parts.0) rest.most }
  where
    most : n ≤ length l.hops → ((i : ℕ) → i < length ls → get_or ns i 0 ≤ length (get_or ls i no_leg).hops) →
        (i : ℕ) → i < length (l ∷ ls) → get_or (n ∷ ns) i 0 ≤ length (get_or (l ∷ ls) i no_leg).hops
    most here rest zero h = here
    most here rest (suc i) h = rest i (omega arith)

-- what makes it pass
pub fits-from : (ls : List LegSpec) (p : List ℕ) → Fitting ls p → fits ls p ≡ true
fits-from [] [] h = refl
fits-from [] (n ∷ ns) h = absurd (omega (arith, h.each))
fits-from (l ∷ ls) [] h = absurd (omega (arith, h.each))
fits-from (l ∷ ls) (n ∷ ns) h =
    and_from (leb n (length l.hops)) (fits ls ns) (le-leb n (length l.hops) (h.most 0 (omega arith)))
    (fits-from ls ns (record { each = omega (arith, h.each); most = λ i lt. h.most (suc i) (omega arith) }))

-- what makes it fail
pub fits_not : (ls : List LegSpec) (p : List ℕ) → (Fitting ls p → ⊥) → fits ls p ≡ false
fits_not ls p no' = go (fits ls p) refl
  where
    go : (b : Bool) → fits ls p ≡ b → b ≡ false
    go true e = absurd (no' (fitting ls p e))
    go false e = refl

-- one comparison for each leg and its number
pub fits-zip : (ls : List Leg) (p : List ℕ) → length ls ≡ length p → list_all (λ x. leb x.1 x.0.count) (zip ls p) ≡ fits (map leg_spec ls) p
fits-zip [] [] e = refl
fits-zip [] (n ∷ ns) e = absurd (omega arith)
fits-zip (l ∷ ls) [] e = absurd (omega arith)
fits-zip (l ∷ ls) (n ∷ ns) e =
    ap (λ m. leb n m && list_all (λ x. leb x.1 x.0.count) (zip ls ns)) (sym (leg-size l))
    ∙ ap (λ b. leb n (length (leg_spec l).hops) && b) (fits-zip ls ns (omega arith))
