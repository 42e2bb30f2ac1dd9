-- The first set of a slot takes each leg that can join.
use Rattle.std.proofs.Common.{◌≡◌, ℕ, Bool, true, false, cond, leb, List, [], ◌∷◌, ◌++◌, map, get_or, filter, sym, refl, ap, ◌∙◌, arith}
use Rattle.std.proofs.lemmas.List.Elements.{filter-append, filter_agree}
use Rattle.std.proofs.lemmas.List.{append_assoc, append-nil}
use Rattle.std.proofs.lemmas.Bool.{cond_both, and_from, le-leb}
use Rattle.frame.specs.Frames.{FrameSpec}
use Rattle.frame.specs.Sets.{sendable, subsets}
use Rattle.frame.specs.Quick.{Order, first_set}
use Rattle.theory.specs.Greedy.{joins, greedy}
use Rattle.theory.proofs.Clear.{joins-sendable, unsendable_longer}

-- a filter that nothing passes
kept_by_none : {X : Type 0} (t : X → Bool) → ((x : X) → t x ≡ false) → (xs : List X) → filter t xs ≡ []
kept_by_none t none [] = refl
kept_by_none t none (x ∷ xs) = rw (none x) (kept_by_none t none xs)

-- a filter of what a function gives
kept_by_map : {X Y : Type 0} (t : Y → Bool) (g : X → Y) (xs : List X) → filter t (map g xs) ≡ map g (filter (λ x. t (g x)) xs)
kept_by_map t g [] = refl
kept_by_map {X} t g (x ∷ xs) = rw (kept_by_map t g xs) (go (t (g x)) (filter (λ x. t (g x)) xs))
  where
    go : (b : Bool) (ys : List X) → cond b (g x ∷ map g ys) (map g ys) ≡ map g (cond b (x ∷ ys) ys)
    go true ys = refl
    go false ys = refl

-- the sets that pass, with and without the first leg
kept_by_subsets : (t : List ℕ → Bool) (x : ℕ) (xs : List ℕ) → filter t (subsets (x ∷ xs))
    ≡ map (λ set. x ∷ set) (filter (λ set. t (x ∷ set)) (subsets xs)) ++ filter t (subsets xs)
kept_by_subsets t x xs =
    filter-append t (map (λ set. x ∷ set) (subsets xs)) (subsets xs)
    ∙ ap (λ l. l ++ filter t (subsets xs)) (kept_by_map t (λ set. x ∷ set) (subsets xs))

module _ (f : FrameSpec) (p : List ℕ) where
  -- the sets that can be sent with the chosen legs
  abbrev with : List ℕ → List ℕ → List (List ℕ)
  with chosen xs = filter (λ set. sendable f p (chosen ++ set)) (subsets xs)

  -- the first of these is the set given
  abbrev Begins : List ℕ → List ℕ → List ℕ → Type 0
  Begins chosen xs set = (rest : List (List ℕ)) × (with chosen xs ≡ set ∷ rest)

  -- the sets with the first leg come first, if it joins
  begins-taken : (chosen : List ℕ) (x : ℕ) (xs set : List ℕ) → Begins (chosen ++ x ∷ []) xs set → Begins chosen (x ∷ xs) (x ∷ set)
  begins-taken chosen x xs set (rest, e) = (
    map (λ set. x ∷ set) rest ++ with chosen xs,
    kept_by_subsets (λ set. sendable f p (chosen ++ set)) x xs
        ∙ ap (λ l. map (λ set. x ∷ set) l ++ with chosen xs) (same ∙ e),
  )
    where
      same : filter (λ set. sendable f p (chosen ++ x ∷ set)) (subsets xs) ≡ with (chosen ++ x ∷ []) xs
      same =
          filter_agree (λ set. sendable f p (chosen ++ x ∷ set)) (λ set. sendable f p ((chosen ++ x ∷ []) ++ set))
          (λ set. ap (sendable f p) (sym (append_assoc chosen (x ∷ []) set))) (subsets xs)

  -- none has the first leg, if it cannot join
  begins-left : (chosen : List ℕ) (x : ℕ) (xs set : List ℕ) → sendable f p (chosen ++ x ∷ []) ≡ false → Begins chosen xs set →
      Begins chosen (x ∷ xs) set
  begins-left chosen x xs set out (rest, e) = (
    rest,
    kept_by_subsets (λ set. sendable f p (chosen ++ set)) x xs
        ∙ ap (λ l. map (λ set. x ∷ set) l ++ with chosen xs) none ∙ e,
  )
    where
      none : filter (λ set. sendable f p (chosen ++ x ∷ set)) (subsets xs) ≡ []
      none =
          kept_by_none (λ set. sendable f p (chosen ++ x ∷ set))
          (λ set. ap (sendable f p) (sym (append_assoc chosen (x ∷ []) set)) ∙ unsendable_longer f p (chosen ++ x ∷ []) set out)
          (subsets xs)

  -- the sets that can be sent with the chosen legs begin with the greedy one
  begins-greedy : (xs chosen : List ℕ) → sendable f p chosen ≡ true → Begins chosen xs (greedy f p chosen xs)
  begins-greedy [] chosen e = ([], rw (append-nil chosen, e))
  begins-greedy (x ∷ xs) chosen e =
      cond_both (joins f p chosen x) (x ∷ greedy f p (chosen ++ x ∷ []) xs) (greedy f p chosen xs) (Begins chosen (x ∷ xs))
      (λ j. begins-taken chosen x xs (greedy f p (chosen ++ x ∷ []) xs)
      (begins-greedy xs (chosen ++ x ∷ []) (sym (joins-sendable f p chosen x e) ∙ j)))
      (λ j. begins-left chosen x xs (greedy f p chosen xs) (sym (joins-sendable f p chosen x e) ∙ j) (begins-greedy xs chosen e))

-- the first set of a slot is the greedy one
pub first-set-greedy : (f : FrameSpec) (order : Order) (s : ℕ) (p : List ℕ) → first_set f order s p ≡ greedy f p [] (order s p)
first-set-greedy f order s p =
    ap (λ l. get_or l 0 [])
    (begins-greedy f p (order s p) [] (and_from (leb 0 f.channels) true (le-leb 0 f.channels (omega arith)) refl)).1
