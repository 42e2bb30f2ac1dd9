-- The place of a leg in a set.
use Rattle.std.proofs.Common.{◌≡◌, ℕ, suc, ◌+◌, ◌<◌, ◌≤◌, true, false, cond, not, eqb, ◌≢◌, List, [], ◌∷◌, length, get_or, sym, ap, ◌∙◌, subst, ⊎_elim, arith}
use Rattle.std.specs.List.{ContainsAt as Has}
use Rattle.std.proofs.lemmas.Bool.{cond_both, eqb-true, eqb-false, and_parts, not-true, cases_lt}
use Rattle.std.proofs.ByRecursion.{has_get_or}
use Rattle.frame.specs.Frames.{FrameSpec}
use Rattle.frame.specs.Sets.{clash, next_hop, clear, conflict_free}
use Rattle.frame.specs.Quick.{placed, placed_from}
use Rattle.theory.proofs.Members.{has_none, has_here, has_there, has_cases}
use Rattle.theory.proofs.Clear.{clash_swap}

-- the first place of i in the set; its length where i is not in it
abbrev pub place_in : List ℕ → ℕ → ℕ
place_in [] i = 0
place_in (x ∷ xs) i = cond (eqb x i) 0 (suc (place_in xs i))

-- a leg of the set has a place in it
pub place_below : (xs : List ℕ) (i : ℕ) → Has xs i → place_in xs i < length xs
place_below [] i h = absurd (has_none i h)
place_below (x ∷ xs) i h =
    cond_both (eqb x i) 0 (suc (place_in xs i)) (λ k. k < suc (length xs)) (λ e. omega arith)
    (λ e. ⊎_elim (λ same. absurd (eqb-false x i e same)) (λ r. omega (arith, place_below xs i r)) (has_cases x xs i h))

-- and what has a place in the set is there
pub place_at : (xs : List ℕ) (i : ℕ) → place_in xs i < length xs → get_or xs (place_in xs i) 0 ≡ i
place_at [] i = λ l. absurd (omega arith)
place_at (x ∷ xs) i =
    cond_both (eqb x i) 0 (suc (place_in xs i)) (λ k. k < suc (length xs) → get_or (x ∷ xs) k 0 ≡ i) (λ e l. eqb-true x i e)
    (λ e l. place_at xs i (omega arith))

-- what is not in the set has none
pub place-past : (xs : List ℕ) (i : ℕ) → (Has xs i → ⊥) → length xs ≤ place_in xs i
place-past xs i out =
    ⊎_elim (λ l. absurd (out (subst (Has xs) (place_at xs i l) (has_get_or xs (place_in xs i) 0 l)))) (λ l. l)
    (cases_lt (place_in xs i) (length xs))

-- no two have the same place
pub places_apart : (xs : List ℕ) (i j : ℕ) → Has xs i → Has xs j → i ≢ j → place_in xs i ≢ place_in xs j
places_apart xs i j h k apart same =
    apart (sym (place_at xs i (place_below xs i h)) ∙ ap (λ n. get_or xs n 0) same ∙ place_at xs j (place_below xs j k))

module _ (f : FrameSpec) (p : List ℕ) where
  -- a leg that is clear of a set shares no device with a leg of it
  clear_of : (xs : List ℕ) (i j : ℕ) → clear f p i xs ≡ true → Has xs j → clash (next_hop f p i) (next_hop f p j) ≡ false
  clear_of [] i j e h = absurd (has_none j h)
  clear_of (x ∷ xs) i j e h =
      let parts = and_parts (not (clash (next_hop f p i) (next_hop f p x))) (clear f p i xs) e in
      ⊎_elim
      (λ same. subst (λ z. clash (next_hop f p i) (next_hop f p z) ≡ false) same
      (not-true (clash (next_hop f p i) (next_hop f p x)) parts.0))
      (λ r. clear_of xs i j parts.1 r) (has_cases x xs j h)

  -- two legs of a set without conflict share no device
  pub conflict_free_apart : (xs : List ℕ) (i j : ℕ) → conflict_free f p xs ≡ true → Has xs i → Has xs j → i ≢ j →
      clash (next_hop f p i) (next_hop f p j) ≡ false
  conflict_free_apart [] i j e h k apart = absurd (has_none i h)
  conflict_free_apart (x ∷ xs) i j e h k apart =
      let parts = and_parts (clear f p x xs) (conflict_free f p xs) e in
      ⊎_elim
      (λ same-i. ⊎_elim (λ same-j. absurd (apart (sym same-i ∙ same-j)))
      (λ r. subst (λ z. clash (next_hop f p z) (next_hop f p j) ≡ false) same-i (clear_of xs x j parts.0 r)) (has_cases x xs j k))
      (λ q. ⊎_elim
      (λ same-j. subst (λ z. clash (next_hop f p i) (next_hop f p z) ≡ false) same-j
      (clash_swap (next_hop f p i) (next_hop f p x) ∙ clear_of xs x i parts.0 q))
      (λ r. conflict_free_apart xs i j parts.1 q r apart) (has_cases x xs j k))
      (has_cases x xs i h)

  -- the placements of a set hold that of each leg, at its place
  pub has_placed : (xs : List ℕ) (s o i n : ℕ) → Has xs i → o + place_in xs i ≡ n → Has (placed_from f s p o xs) (placed f s p n i)
  has_placed [] s o i n h = absurd (has_none i h)
  has_placed (x ∷ xs) s o i n h =
      cond_both (eqb x i) 0 (suc (place_in xs i)) (λ k. o + k ≡ n → Has (placed_from f s p o (x ∷ xs)) (placed f s p n i))
      (λ e at. subst (λ z. Has (placed_from f s p o (x ∷ xs)) z) (here (eqb-true x i e) (omega arith))
      (has_here (placed f s p o x) (placed_from f s p (o + 1) xs)))
      (λ e at. has_there (placed f s p o x) (placed_from f s p (o + 1) xs) (placed f s p n i)
      (⊎_elim (λ same. absurd (eqb-false x i e same)) (λ r. has_placed xs s (o + 1) i n r (omega arith)) (has_cases x xs i h)))
    where
      here : x ≡ i → o ≡ n → placed f s p o x ≡ placed f s p n i
      here same at = ap (λ z. placed f s p o z) same ∙ ap (λ z. placed f s p z i) at
