-- Whether a flow is in force after one entered or left.
use Rattle.std.proofs.Common.{◌≡◌, ℕ, Bool, true, false, cond, eqb, ltb, List, [], ◌∷◌, refl, arith}
use Rattle.std.proofs.lemmas.Bool.{and_parts, or_left, or_right, or_from, ltb-true, eqb-true, eq-eqb, ne_eqb}
use Rattle.flow.specs.Flows.{FlowSpec}
use Rattle.table.specs.Force.{in_force, enter, leave, above, rising}

-- a flow that entered is in force
pub in_force_enter : (f : FlowSpec) (fs : List FlowSpec) → in_force f.number (enter f fs) ≡ true
in_force_enter f [] = or_left (eqb f.number f.number) false (eq-eqb f.number f.number refl)
in_force_enter f (g ∷ gs) = go (ltb g.number f.number) (in_force_enter f gs)
  where
    go : (b : Bool) → in_force f.number (enter f gs) ≡ true → in_force f.number (cond b (g ∷ enter f gs) (f ∷ g ∷ gs)) ≡ true
    go true ih = or_right (eqb g.number f.number) (in_force f.number (enter f gs)) ih
    go false ih = or_left (eqb f.number f.number) (in_force f.number (g ∷ gs)) (eq-eqb f.number f.number refl)

-- no flow above n has number n
absent_above : (n : ℕ) (fs : List FlowSpec) → above n fs ≡ true → in_force n fs ≡ false
absent_above n [] a = refl
absent_above n (g ∷ gs) a =
    let p = and_parts (ltb n g.number) (above n gs) a in
    let lt = ltb-true n g.number p.0 in
    or_from (eqb g.number n) (in_force n gs) (ne_eqb g.number n (λ e. omega arith)) (absent_above n gs p.1)

-- a flow that left is not in force
pub absent_leave : (n : ℕ) (fs : List FlowSpec) → rising fs ≡ true → in_force n (leave n fs) ≡ false
absent_leave n [] r = refl
absent_leave n (g ∷ gs) r = go (eqb g.number n) refl (absent_leave n gs p.1)
  where
    p : (above g.number gs ≡ true) × (rising gs ≡ true)
    p = and_parts (above g.number gs) (rising gs) r

    go : (b : Bool) → eqb g.number n ≡ b → in_force n (leave n gs) ≡ false → in_force n (cond b gs (g ∷ leave n gs)) ≡ false
    go true e ih = let same = eqb-true g.number n e in rw (← same) (absent_above g.number gs p.0)
    go false e ih = or_from (eqb g.number n) (in_force n (leave n gs)) e ih
