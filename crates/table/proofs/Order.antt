-- Flows that enter and leave a list in order of their numbers.
use Rattle.std.proofs.Common.{◌≡◌, ℕ, suc, ◌<◌, ◌≤◌, Bool, true, false, cond, eqb, ltb, List, [], ◌∷◌, length, sym, refl, ap, ◌∙◌, arith}
use Rattle.std.proofs.lemmas.Bool.{cond-true, cond-false, and_parts, and_from, or_parts, ltb-true, ltb-false, lt-ltb, le-ltb, eqb-true, eqb-false, eq-eqb}
use Rattle.flow.specs.Flows.{FlowSpec}
use Rattle.table.specs.Force.{in_force, enter, leave, above, rising}

-- with the flow that enters there is one more
pub length-enter : (f : FlowSpec) (fs : List FlowSpec) → length (enter f fs) ≡ suc (length fs)
length-enter f [] = refl
length-enter f (g ∷ gs) = go (ltb g.number f.number) (length-enter f gs)
  where
    go : (b : Bool) → length (enter f gs) ≡ suc (length gs) → length (cond b (g ∷ enter f gs) (f ∷ g ∷ gs)) ≡ suc (suc (length gs))
    go true ih = ap suc ih
    go false ih = refl

-- what is above n is above every number up to n
above_lower : (m n : ℕ) (fs : List FlowSpec) → m ≤ n → above n fs ≡ true → above m fs ≡ true
above_lower m n [] h a = refl
above_lower m n (g ∷ gs) h a =
    let p = and_parts (ltb n g.number) (above n gs) a in
    let lt : m < g.number = omega (arith, ltb-true n g.number p.0) in
    and_from (ltb m g.number) (above m gs) (lt-ltb m g.number lt) (above_lower m n gs h p.1)

-- what enters above n stays above n
above-enter : (n : ℕ) (f : FlowSpec) (fs : List FlowSpec) → n < f.number → above n fs ≡ true → above n (enter f fs) ≡ true
above-enter n f [] h a = and_from (ltb n f.number) true (lt-ltb n f.number h) refl
above-enter n f (g ∷ gs) h a = go (ltb g.number f.number) (above-enter n f gs h p.1)
  where
    p : (ltb n g.number ≡ true) × (above n gs ≡ true)
    p = and_parts (ltb n g.number) (above n gs) a

    go : (b : Bool) → above n (enter f gs) ≡ true → above n (cond b (g ∷ enter f gs) (f ∷ g ∷ gs)) ≡ true
    go true ih = and_from (ltb n g.number) (above n (enter f gs)) p.0 ih
    go false ih = and_from (ltb n f.number) (above n (g ∷ gs)) (lt-ltb n f.number h) a

-- what is left of flows above n is above n
above-leave : (n k : ℕ) (fs : List FlowSpec) → above n fs ≡ true → above n (leave k fs) ≡ true
above-leave n k [] a = refl
above-leave n k (g ∷ gs) a = go (eqb g.number k) (above-leave n k gs p.1)
  where
    p : (ltb n g.number ≡ true) × (above n gs ≡ true)
    p = and_parts (ltb n g.number) (above n gs) a

    go : (b : Bool) → above n (leave k gs) ≡ true → above n (cond b gs (g ∷ leave k gs)) ≡ true
    go true ih = p.1
    go false ih = and_from (ltb n g.number) (above n (leave k gs)) p.0 ih

-- a new number keeps the order
pub rising-enter : (f : FlowSpec) (fs : List FlowSpec) → in_force f.number fs ≡ false → rising fs ≡ true → rising (enter f fs) ≡ true
rising-enter f [] new r = refl
rising-enter f (g ∷ gs) new r = go (ltb g.number f.number) refl (rising-enter f gs q.1 p.1)
  where
    p : (above g.number gs ≡ true) × (rising gs ≡ true)
    p = and_parts (above g.number gs) (rising gs) r

    q : (eqb g.number f.number ≡ false) × (in_force f.number gs ≡ false)
    q = or_parts (eqb g.number f.number) (in_force f.number gs) new

    go : (b : Bool) → ltb g.number f.number ≡ b → rising (enter f gs) ≡ true → rising (cond b (g ∷ enter f gs) (f ∷ g ∷ gs)) ≡ true
    go true e ih =
        let front = above-enter g.number f gs (ltb-true g.number f.number e) p.0 in
        and_from (above g.number (enter f gs)) (rising (enter f gs)) front ih
    go false e ih =
        let ne = eqb-false g.number f.number q.0 in
        let le = ltb-false g.number f.number e in
        let lt : f.number < g.number = omega arith in
        let rest = above_lower f.number g.number gs le p.0 in
        let front = and_from (ltb f.number g.number) (above f.number gs) (lt-ltb f.number g.number lt) rest in
        and_from (above f.number (g ∷ gs)) (rising (g ∷ gs)) front r

-- a flow that leaves keeps the order
pub rising-leave : (n : ℕ) (fs : List FlowSpec) → rising fs ≡ true → rising (leave n fs) ≡ true
rising-leave n [] r = refl
rising-leave n (g ∷ gs) r = go (eqb g.number n) (rising-leave n gs p.1)
  where
    p : (above g.number gs ≡ true) × (rising gs ≡ true)
    p = and_parts (above g.number gs) (rising gs) r

    go : (b : Bool) → rising (leave n gs) ≡ true → rising (cond b gs (g ∷ leave n gs)) ≡ true
    go true ih = p.1
    go false ih = and_from (above g.number (leave n gs)) (rising (leave n gs)) (above-leave g.number n gs p.0) ih

-- a flow that enters and leaves again leaves the flows as they were
pub leave-enter : (f : FlowSpec) (fs : List FlowSpec) → in_force f.number fs ≡ false → leave f.number (enter f fs) ≡ fs
leave-enter f [] new = cond-true (eqb f.number f.number) [] (f ∷ []) (eq-eqb f.number f.number refl)
leave-enter f (g ∷ gs) new = go (ltb g.number f.number) (leave-enter f gs q.1)
  where
    q : (eqb g.number f.number ≡ false) × (in_force f.number gs ≡ false)
    q = or_parts (eqb g.number f.number) (in_force f.number gs) new

    go : (b : Bool) → leave f.number (enter f gs) ≡ gs → leave f.number (cond b (g ∷ enter f gs) (f ∷ g ∷ gs)) ≡ g ∷ gs
    go true ih = cond-false (eqb g.number f.number) (enter f gs) (g ∷ leave f.number (enter f gs)) q.0 ∙ ap (λ l. g ∷ l) ih
    go false ih = cond-true (eqb f.number f.number) (g ∷ gs) (f ∷ leave f.number (g ∷ gs)) (eq-eqb f.number f.number refl)

-- f is the flow of its number among those in force
abbrev pub Stands : FlowSpec → List FlowSpec → Type 0
Stands f [] = ⊥
Stands f (g ∷ gs) = cond (eqb g.number f.number) (g ≡ f) (Stands f gs)

-- among rising numbers, what enters below all of them comes first
enter_below : (f : FlowSpec) (fs : List FlowSpec) → above f.number fs ≡ true → enter f fs ≡ f ∷ fs
enter_below f [] a = refl
enter_below f (g ∷ gs) a =
    let lt = ltb-true f.number g.number (and_parts (ltb f.number g.number) (above f.number gs) a).0 in
    cond-false (ltb g.number f.number) (g ∷ enter f gs) (f ∷ g ∷ gs) (le-ltb g.number f.number (omega arith))

-- a flow that stands above n has a number above n
stands-above : (n : ℕ) (f : FlowSpec) (fs : List FlowSpec) → above n fs ≡ true → Stands f fs → n < f.number
stands-above n f [] a s = absurd s
stands-above n f (g ∷ gs) a s = go (eqb g.number f.number) refl s (stands-above n f gs p.1)
  where
    p : (ltb n g.number ≡ true) × (above n gs ≡ true)
    p = and_parts (ltb n g.number) (above n gs) a

    go : (b : Bool) → eqb g.number f.number ≡ b → cond b (g ≡ f) (Stands f gs) → (Stands f gs → n < f.number) → n < f.number
    go true e is ih = omega (arith, ltb-true n g.number p.0, eqb-true g.number f.number e)
    go false e is ih = ih is

-- a flow that leaves and enters again stands where it stood
pub enter-leave : (f : FlowSpec) (fs : List FlowSpec) → rising fs ≡ true → Stands f fs → enter f (leave f.number fs) ≡ fs
enter-leave f [] r s = absurd s
enter-leave f (g ∷ gs) r s = go (eqb g.number f.number) refl s (enter-leave f gs p.1)
  where
    p : (above g.number gs ≡ true) × (rising gs ≡ true)
    p = and_parts (above g.number gs) (rising gs) r

    go : (b : Bool) → eqb g.number f.number ≡ b → cond b (g ≡ f) (Stands f gs) →
        (Stands f gs → enter f (leave f.number gs) ≡ gs) → enter f (cond b gs (g ∷ leave f.number gs)) ≡ g ∷ gs
    go true e is ih =
        enter_below f gs (ap (λ n. above n gs) (sym (eqb-true g.number f.number e)) ∙ p.0) ∙ ap (λ x. x ∷ gs) (sym is)
    go false e is ih =
        let lt = stands-above g.number f gs p.0 is in
        let rest = leave f.number gs in
        cond-true (ltb g.number f.number) (g ∷ enter f rest) (f ∷ g ∷ rest) (lt-ltb g.number f.number lt)
        ∙ ap (λ l. g ∷ l) (ih is)
