-- What a list has, and lists in which nothing stands twice.
use Rattle.std.proofs.Common.{◌≡◌, ℕ, zero, suc, ◌+◌, ◌<◌, ◌≤◌, Bool, true, false, cond, eqb, ◌⊎◌, List, [], ◌∷◌, length, filter, sym, refl, ap, ◌∙◌, subst, inl, inr, ⊎_elim, arith}
use Rattle.std.specs.List.{range_with_len, ContainsAt as Has}
use Rattle.std.proofs.lemmas.Bool.{cond_both, cases_eq, false≢true, eqb-true, eqb-false}
use Rattle.frame.specs.Grids.{Distinct}

-- the empty list has nothing
pub has_none : {X : Type 0} (x : X) → Has [] x → ⊥
has_none x (k, l, e) = omega arith

-- a list has its first
pub has_here : {X : Type 0} (x : X) (xs : List X) → Has (x ∷ xs) x
has_here x xs = (zero, omega arith, λ d. refl)

-- a list has what its rest has
pub has_there : {X : Type 0} (y : X) (xs : List X) (x : X) → Has xs x → Has (y ∷ xs) x
has_there y xs x (k, l, e) = (suc k, omega arith, e)

-- what a list has is its first, or its rest has it
pub has_cases : {X : Type 0} (y : X) (xs : List X) (x : X) → Has (y ∷ xs) x → (y ≡ x) ⊎ Has xs x
has_cases y xs x (zero, l, e) = inl (e y)
has_cases y xs x (suc k, l, e) = inr (k, omega arith, e)

-- a list has a number, or it does not
pub has_or_not : (xs : List ℕ) (x : ℕ) → Has xs x ⊎ (Has xs x → ⊥)
has_or_not [] x = inr (has_none x)
has_or_not (y ∷ ys) x =
    ⊎_elim (λ e. inl (subst (λ z. Has (y ∷ ys) z) e (has_here y ys)))
    (λ ne. ⊎_elim (λ h. inl (has_there y ys x h)) (λ out. inr (λ h. ⊎_elim ne out (has_cases y ys x h))) (has_or_not ys x))
    (cases_eq y x)

-- what a filtered list has, the list has
pub has_from_kept : {X : Type 0} (t : X → Bool) (xs : List X) (x : X) → Has (filter t xs) x → Has xs x
has_from_kept t [] x = λ h. h
has_from_kept t (y ∷ ys) x =
    cond_both (t y) (y ∷ filter t ys) (filter t ys) (λ l. Has l x → Has (y ∷ ys) x)
    (λ e h. ⊎_elim (λ same. subst (λ z. Has (y ∷ ys) z) same (has_here y ys)) (λ r. has_there y ys x (has_from_kept t ys x r))
    (has_cases y (filter t ys) x h))
    (λ e h. has_there y ys x (has_from_kept t ys x h))

-- a filter keeps what passes
pub has_kept : {X : Type 0} (t : X → Bool) (xs : List X) (x : X) → t x ≡ true → Has xs x → Has (filter t xs) x
has_kept t [] x e h = h
has_kept t (y ∷ ys) x e h = go (t y) refl (has_kept t ys x e)
  where
    go : (b : Bool) → t y ≡ b → (Has ys x → Has (filter t ys) x) → Has (cond b (y ∷ filter t ys) (filter t ys)) x
    go true _ rest =
        ⊎_elim (λ same. subst (λ z. Has (y ∷ filter t ys) z) same (has_here y (filter t ys)))
        (λ r. has_there y (filter t ys) x (rest r)) (has_cases y ys x h)
    go false out rest =
        ⊎_elim (λ same. let z : ◌≡◌ {A = Bool} false true = sym out ∙ ap t same ∙ e in absurd (false≢true z)) rest (has_cases y ys x h)

-- a filtered list has nothing twice where the list has nothing twice
pub distinct_kept : (t : ℕ → Bool) (xs : List ℕ) → Distinct xs → Distinct (filter t xs)
distinct_kept t [] d = d
distinct_kept t (x ∷ xs) (out, d) =
    cond_both (t x) (x ∷ filter t xs) (filter t xs) Distinct (λ _. (λ h. out (has_from_kept t xs x h), distinct_kept t xs d))
    (λ _. distinct_kept t xs d)

-- the numbers from a on, n of them
pub has_counting : (a n x : ℕ) → a ≤ x → x < a + n → Has (range_with_len a n) x
has_counting a zero x low high = absurd (omega arith)
has_counting a (suc n) x low high =
    ⊎_elim (λ e. subst (λ z. Has (a ∷ range_with_len (a + 1) n) z) e (has_here a (range_with_len (a + 1) n)))
    (λ ne. has_there a (range_with_len (a + 1) n) x (has_counting (a + 1) n x (omega arith) (omega arith))) (cases_eq a x)

-- and no others
pub counting_range : (a n x : ℕ) → Has (range_with_len a n) x → (a ≤ x) × (x < a + n)
counting_range a zero x h = absurd (has_none x h)
counting_range a (suc n) x h =
    ⊎_elim (λ e. (omega arith, omega arith))
    (λ r. let s = counting_range (a + 1) n x r in (omega arith, omega arith)) (has_cases a (range_with_len (a + 1) n) x h)

-- each once
pub distinct_counting : (a n : ℕ) → Distinct (range_with_len a n)
distinct_counting a zero = tt
distinct_counting a (suc n) = (λ h. let s = counting_range (a + 1) n a h in omega arith, distinct_counting (a + 1) n)

-- the list without the first x
abbrev without : List ℕ → ℕ → List ℕ
without [] x = []
without (y ∷ ys) x = cond (eqb y x) ys (y ∷ without ys x)

-- it is shorter by one
length_without : (ys : List ℕ) (x : ℕ) → Has ys x → length (without ys x) + 1 ≡ length ys
length_without [] x h = absurd (has_none x h)
length_without (y ∷ ys) x h =
    cond_both (eqb y x) ys (y ∷ without ys x) (λ l. length l + 1 ≡ suc (length ys)) (λ e. omega arith)
    (λ e. ⊎_elim (λ same. absurd (eqb-false y x e same)) (λ r. omega (arith, length_without ys x r)) (has_cases y ys x h))

-- and has all others
has_without : (ys : List ℕ) (x z : ℕ) → (x ≡ z → ⊥) → Has ys z → Has (without ys x) z
has_without [] x z ne h = h
has_without (y ∷ ys) x z ne h =
    cond_both (eqb y x) ys (y ∷ without ys x) (λ l. Has l z)
    (λ e. ⊎_elim (λ same. absurd (ne (sym (eqb-true y x e) ∙ same))) (λ r. r) (has_cases y ys z h))
    (λ e. ⊎_elim (λ same. subst (λ w. Has (y ∷ without ys x) w) same (has_here y (without ys x)))
    (λ r. has_there y (without ys x) z (has_without ys x z ne r)) (has_cases y ys z h))

-- a list without repeats is no longer than one that has all of it
pub distinct-short : (xs ys : List ℕ) → Distinct xs → ((x : ℕ) → Has xs x → Has ys x) → length xs ≤ length ys
distinct-short [] ys d sub = omega arith
distinct-short (x ∷ xs) ys (out, d) sub =
    omega (
      arith,
      length_without ys x (sub x (has_here x xs)),
      distinct-short xs (without ys x) d
          (λ z h. has_without ys x z (λ e. out (subst (Has xs) (sym e) h)) (sub z (has_there x xs z h))),
    )
