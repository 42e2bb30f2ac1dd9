-- The pass over a list that rises by ends finds the least slack of the ends that count.
use Rattle.std.proofs.Common.{◌≡◌, ℕ, ◌+◌, ◌<◌, ◌≤◌, Bool, true, false, cond, ◌&&◌, ◌||◌, ◌⊎◌, List, [], ◌∷◌, ℤ, pos, ◌+ℤ◌, ◌-ℤ◌, ◌≤ℤ◌, Some, None, Option, fold, count_by, sym, refl, ap, ◌∙◌, subst, inl, inr, arith}
use lib.Signed.{le_z, ≤ℤ_refl}
use Rattle.std.specs.Bool.{then_some}
use Rattle.std.specs.Int.{int_min}
use Rattle.std.specs.Option.{option_map_or}
use Rattle.std.proofs.lemmas.Int.{ints}
use Rattle.std.proofs.lemmas.Bool.{cases_lt, and_parts, and_from, and_left, or_cases, or_left, or_right, cond-true, true≢false}
use Rattle.ranking.specs.declared.sweep.Sweep.{Sweep}
use Rattle.ranking.specs.Sweep.{is_live_end, passed}
use Rattle.ranking.proofs.Members.{In, count_yes, count_no, counted}
use Rattle.ranking.proofs.Least.{min-left, min-right, min-one, ≤_trans, ≤_antisym}

-- what a test of order says
pub le_from_int : (a b : ℤ) → le_z a b ≡ true → a ≤ℤ b
le_from_int a b e = grind (arith, ints)

pub le_to_int : (a b : ℤ) → a ≤ℤ b → le_z a b ≡ true
le_to_int a b h = grind (arith, ints)

-- a number that is not above itself less n is that
level : (b : ℤ) (k n : ℕ) (r : ℤ) → r ≡ (b +ℤ pos 1) -ℤ pos k → r ≤ℤ ((b +ℤ pos 1) -ℤ pos (k + n)) → r ≡ (b +ℤ pos 1) -ℤ pos (k + n)
level b k n r e h = omega (arith, ints)

-- a test of the end that is kept says that one is kept
kept_end : (o : Option ℤ) (a : ℤ) → option_map_or (le_z a) o false ≡ true → (b : ℤ) × (o ≡ Some b) × (le_z a b ≡ true)
kept_end None a e = absurd (true≢false (sym e))
kept_end (Some b) a e = (b, refl, e)

-- a test of an end that is kept where b holds
option_map_or-then_some : (b : Bool) (a z : ℤ) → option_map_or (le_z a) (then_some b z) false ≡ (b && le_z a z)
option_map_or-then_some true a z = refl
option_map_or-then_some false a z = refl

-- the ends rise
abbrev pub Rising : {X : Type 0} → (X → ℤ) → List X → Type 0
Rising end [] = Unit {0}
Rising {X} end (x ∷ xs) = ((y : X) → In y xs → end x ≤ℤ end y) × Rising end xs

module _ {X : Type 0} (und cand : X → Bool) (end : X → ℤ) (s : ℕ) where
  -- the pass after one more
  abbrev pub stepped : Sweep → X → Sweep
  stepped w x = cond (und x) (passed s (cand x) (end x) w) w

  -- an undone one that ends by b
  abbrev pub ends_to : ℤ → X → Bool
  ends_to b x = und x && le_z (end x) b

  -- the slots to b, less k and those that end by b
  abbrev pub slack_over : ℕ → List X → ℤ → ℤ
  slack_over k xs b = ((b -ℤ pos s) +ℤ pos 1) -ℤ pos (k + count_by (ends_to b) xs)

  -- the end of x counts
  abbrev pub Counts : Sweep → X → Type 0
  Counts w x = (und x ≡ true) × (is_live_end (cand x) (end x) w ≡ true)

  -- where the pass stands at an end that counts, none before it is left
  abbrev pub Ready : Sweep → List X → Type 0
  Ready w xs = (b : ℤ) → w.live ≡ Some b → (y : X) → In y xs → b ≤ℤ end y

  -- behind x an end counts where it is in time, or where x's counts and is the same
  counts_behind : (x y : X) (w : Sweep) → is_live_end (cand y) (end y) (passed s (cand x) (end x) w)
      ≡ (cand y || (is_live_end (cand x) (end x) w && le_z (end y) (end x)))
  counts_behind x y w = ap (λ b. cand y || b) (option_map_or-then_some (is_live_end (cand x) (end x) w) (end y) (end x))

  -- r is not above what is found, nor above any slack of an end that counts
  abbrev pub Low : Sweep → List X → ℤ → Type 0
  Low w xs r = (r ≤ℤ w.best) × ((y : X) → In y xs → Counts w y → r ≤ℤ slack_over w.count xs (end y))

  -- r is what is found, or one of those slacks
  abbrev pub Reached : Sweep → List X → ℤ → Type 0
  Reached w xs r = (r ≡ w.best) ⊎ ((y : X) × In y xs × Counts w y × (r ≡ slack_over w.count xs (end y)))

  -- a done one counts nowhere
  skip : (k : ℕ) (x : X) (xs : List X) (b : ℤ) → und x ≡ false → slack_over k (x ∷ xs) b ≡ slack_over k xs b
  skip k x xs b u = ap (λ n. ((b -ℤ pos s) +ℤ pos 1) -ℤ pos (k + n)) (count_no (ends_to b) x xs (and_left (und x) (le_z (end x) b) u))

  -- an undone one counts for each end from its own on
  more : (k : ℕ) (x : X) (xs : List X) (b : ℤ) → und x ≡ true → end x ≤ℤ b → slack_over k (x ∷ xs) b ≡ slack_over (k + 1) xs b
  more k x xs b u h =
      let one = count_yes (ends_to b) x xs (and_from (und x) (le_z (end x) b) u (le_to_int (end x) b h)) in
      let same : k + count_by (ends_to b) (x ∷ xs) ≡ (k + 1) + count_by (ends_to b) xs = omega (arith, one) in
      ap (λ n. ((b -ℤ pos s) +ℤ pos 1) -ℤ pos n) same

  -- the next end is not before the pass's
  ready_step : (x : X) (xs : List X) (w : Sweep) → Rising end (x ∷ xs) → Ready w (x ∷ xs) → Ready (stepped w x) xs
  ready_step x xs w rising ready = go (und x)
    where
      at : (b : Bool) (z : ℤ) → then_some b (end x) ≡ Some z → end x ≡ z
      at true z e = cc
      at false z e = absurd (let n : ◌≡◌ {A = ℕ} 0 1 = cc in omega arith)

      go : (b : Bool) → Ready (cond b (passed s (cand x) (end x) w) w) xs
      go true = λ z e y i. subst (λ (b : ℤ). b ≤ℤ end y) (at (is_live_end (cand x) (end x) w) z e) (rising.0 y i)
      go false = λ z e y i. ready z e y (inr i)

  -- whose end counts before x is met, counts after
  counts_on : (x : X) (xs : List X) (w : Sweep) → Rising end (x ∷ xs) → Ready w (x ∷ xs) → (y : X) → In y xs → Counts w y →
      Counts (passed s (cand x) (end x) w) y
  counts_on x xs w rising ready y i c =
      (c.0, counts_behind x y w ∙ go (or_cases (cand y) (option_map_or (le_z (end y)) w.live false) c.1))
    where
      go : (cand y ≡ true) ⊎ (option_map_or (le_z (end y)) w.live false ≡ true) →
          (cand y || (is_live_end (cand x) (end x) w && le_z (end y) (end x))) ≡ true
      go (inl e) = or_left (cand y) (is_live_end (cand x) (end x) w && le_z (end y) (end x)) e
      go (inr e) =
          let kept = kept_end w.live (end y) e in
          let back = le_from_int (end y) kept.0 kept.2 in
          let here = ready kept.0 kept.1 x (inl refl) in
          let on = rising.0 y i in
          let level = le_to_int (end x) kept.0 (≤_trans (end x) (end y) kept.0 on back) in
          let same = le_to_int (end y) (end x) (≤_trans (end y) kept.0 (end x) back here) in
          or_right (cand y) (is_live_end (cand x) (end x) w && le_z (end y) (end x))
          (and_from (is_live_end (cand x) (end x) w) (le_z (end y) (end x))
          (or_right (cand x) (option_map_or (le_z (end x)) w.live false)
          (ap (λ o. option_map_or (le_z (end x)) o false) kept.1 ∙ level)) same)

  -- what is found after an undone one whose end counts
  found : (x : X) (w : Sweep) → is_live_end (cand x) (end x) w ≡ true →
      (passed s (cand x) (end x) w).best ≡ int_min w.best (((end x -ℤ pos s) +ℤ pos 1) -ℤ pos (w.count + 1))
  found x w live =
      cond-true (is_live_end (cand x) (end x) w) (int_min w.best (((end x -ℤ pos s) +ℤ pos 1) -ℤ pos (w.count + 1))) w.best live

  -- nothing found is above what was found before
  falls : (x : X) (w : Sweep) → (passed s (cand x) (end x) w).best ≤ℤ w.best
  falls x w = go (is_live_end (cand x) (end x) w)
    where
      go : (b : Bool) → cond b (int_min w.best (((end x -ℤ pos s) +ℤ pos 1) -ℤ pos (w.count + 1))) w.best ≤ℤ w.best
      go true = min-left w.best (((end x -ℤ pos s) +ℤ pos 1) -ℤ pos (w.count + 1))
      go false = ≤ℤ_refl w.best

  -- a bound of what is left is one below the slack at x's end
  low-here : (x : X) (xs : List X) (w : Sweep) (r : ℤ) → Rising end (x ∷ xs) → und x ≡ true → is_live_end (cand x) (end x) w ≡ true →
      Low (passed s (cand x) (end x) w) xs r → r ≤ℤ slack_over w.count (x ∷ xs) (end x)
  low-here x xs w r rising u live low = go (cases_lt 0 (count_by (ends_to (end x)) xs))
    where
      go : (0 < count_by (ends_to (end x)) xs) ⊎ (count_by (ends_to (end x)) xs ≤ 0) → r ≤ℤ slack_over w.count (x ∷ xs) (end x)
      go (inl some) =
          let other = counted (ends_to (end x)) xs some in
          let y = other.0 in
          let parts = and_parts (und y) (le_z (end y) (end x)) other.2 in
          let same = ≤_antisym (end y) (end x) (le_from_int (end y) (end x) parts.1) (rising.0 y other.1) in
          let at = low.1 y other.1 (
            parts.0,
            counts_behind x y w ∙ or_right (cand y) (is_live_end (cand x) (end x) w && le_z (end y) (end x))
                (and_from (is_live_end (cand x) (end x) w) (le_z (end y) (end x)) live parts.1),
          ) in
          subst (λ (z : ℤ). r ≤ℤ z) (ap (slack_over (w.count + 1) xs) same ∙ sym (more w.count x xs (end x) u (≤ℤ_refl (end x)))) at
      go (inr none) =
          let v = ((end x -ℤ pos s) +ℤ pos 1) -ℤ pos (w.count + 1) in
          let under : r ≤ℤ int_min w.best v = subst (λ (z : ℤ). r ≤ℤ z) (found x w live) low.0 in
          let over = ≤_trans r (int_min w.best v) v under (min-right w.best v) in
          let is = more w.count x xs (end x) u (≤ℤ_refl (end x)) in
          let zero : (w.count + 1) + count_by (ends_to (end x)) xs ≡ w.count + 1 = omega arith in
          subst (λ (z : ℤ). r ≤ℤ z) (sym (is ∙ ap (λ n. ((end x -ℤ pos s) +ℤ pos 1) -ℤ pos n) zero)) over

  low_step : (x : X) (xs : List X) (w : Sweep) (r : ℤ) → Rising end (x ∷ xs) → Ready w (x ∷ xs) → Low (stepped w x) xs r → Low w (x ∷ xs) r
  low_step x xs w r rising ready low = go (und x) refl low
    where
      go : (b : Bool) → und x ≡ b → Low (cond b (passed s (cand x) (end x) w) w) xs r → Low w (x ∷ xs) r
      go true u low = (≤_trans r (passed s (cand x) (end x) w).best w.best low.0 (falls x w), at)
        where
          at : (y : X) → In y (x ∷ xs) → Counts w y → r ≤ℤ slack_over w.count (x ∷ xs) (end y)
          at y (inl e) c =
              let here = low-here x xs w r rising u (sym (ap (λ z. is_live_end (cand z) (end z) w) e) ∙ c.1) low in
              subst (λ (z : X). r ≤ℤ slack_over w.count (x ∷ xs) (end z)) (sym e) here
          at y (inr i) c =
              subst (λ (z : ℤ). r ≤ℤ z) (sym (more w.count x xs (end y) u (rising.0 y i)))
              (low.1 y i (counts_on x xs w rising ready y i c))
      go false u low = (low.0, at)
        where
          at : (y : X) → In y (x ∷ xs) → Counts w y → r ≤ℤ slack_over w.count (x ∷ xs) (end y)
          at y (inl e) c = absurd (true≢false (sym c.0 ∙ ap und e ∙ u))
          at y (inr i) c = subst (λ (z : ℤ). r ≤ℤ z) (sym (skip w.count x xs (end y) u)) (low.1 y i c)

  reached_step : (x : X) (xs : List X) (w : Sweep) (r : ℤ) → Rising end (x ∷ xs) → Low w (x ∷ xs) r → Reached (stepped w x) xs r →
      Reached w (x ∷ xs) r
  reached_step x xs w r rising low there = go (und x) refl there
    where
      -- where r is the slack at the end of x as the pass counts it, it is that slack
      here : und x ≡ true → is_live_end (cand x) (end x) w ≡ true → r ≡ ((end x -ℤ pos s) +ℤ pos 1) -ℤ pos (w.count + 1) → Reached w (x ∷ xs) r
      here u live e =
          let under : r ≤ℤ slack_over (w.count + 1) xs (end x) =
          subst (λ (z : ℤ). r ≤ℤ z) (more w.count x xs (end x) u (≤ℤ_refl (end x))) (low.1 x (inl refl) (u, live)) in
          let is : r ≡ slack_over (w.count + 1) xs (end x) =
          level (end x -ℤ pos s) (w.count + 1) (count_by (ends_to (end x)) xs) r e under in
          inr (x, inl refl, (u, live), is ∙ sym (more w.count x xs (end x) u (≤ℤ_refl (end x))))

      best : und x ≡ true → (b : Bool) → is_live_end (cand x) (end x) w ≡ b →
          r ≡ cond b (int_min w.best (((end x -ℤ pos s) +ℤ pos 1) -ℤ pos (w.count + 1))) w.best → Reached w (x ∷ xs) r
      best u true live e = elim (min-one w.best (((end x -ℤ pos s) +ℤ pos 1) -ℤ pos (w.count + 1)))
          [ inl is ↦ here u live (e ∙ is) | inr is ↦ inl (e ∙ is) ]
      best u false live e = inl e

      other : und x ≡ true → (y : X) → In y xs → und y ≡ true → r ≡ slack_over (w.count + 1) xs (end y) →
          (cand y ≡ true) ⊎ ((is_live_end (cand x) (end x) w && le_z (end y) (end x)) ≡ true) → Reached w (x ∷ xs) r
      other u y i v e (inl c) =
          let is = e ∙ sym (more w.count x xs (end y) u (rising.0 y i)) in
          inr (y, inr i, (v, or_left (cand y) (option_map_or (le_z (end y)) w.live false) c), is)
      other u y i v e (inr c) =
          let parts = and_parts (is_live_end (cand x) (end x) w) (le_z (end y) (end x)) c in
          let same = ≤_antisym (end y) (end x) (le_from_int (end y) (end x) parts.1) (rising.0 y i) in
          let is = e ∙ ap (slack_over (w.count + 1) xs) same ∙ sym (more w.count x xs (end x) u (≤ℤ_refl (end x))) in
          inr (x, inl refl, (u, parts.0), is)

      go : (b : Bool) → und x ≡ b → Reached (cond b (passed s (cand x) (end x) w) w) xs r → Reached w (x ∷ xs) r
      go true u (inl e) = best u (is_live_end (cand x) (end x) w) refl e
      go true u (inr (y, i, c, e)) =
          other u y i c.0 e
          (or_cases (cand y) (is_live_end (cand x) (end x) w && le_z (end y) (end x)) (sym (counts_behind x y w) ∙ c.1))
      go false u (inl e) = inl e
      go false u (inr (y, i, c, e)) = inr (y, inr i, c, e ∙ sym (skip w.count x xs (end y) u))

  -- what the pass finds is not above any slack that counts, and one of them or what was found before
  pub pass_low : (xs : List X) (w : Sweep) → Rising end xs → Ready w xs → Low w xs (fold stepped w xs).best
  pass_low [] w rising ready = (≤ℤ_refl w.best, λ y i c. absurd i)
  pass_low (x ∷ xs) w rising ready =
      low_step x xs w (fold stepped (stepped w x) xs).best rising ready
      (pass_low xs (stepped w x) rising.1 (ready_step x xs w rising ready))

  pub pass_reached : (xs : List X) (w : Sweep) → Rising end xs → Ready w xs → Reached w xs (fold stepped w xs).best
  pass_reached [] w rising ready = inl refl
  pass_reached (x ∷ xs) w rising ready =
      reached_step x xs w (fold stepped (stepped w x) xs).best rising (pass_low (x ∷ xs) w rising ready)
      (pass_reached xs (stepped w x) rising.1 (ready_step x xs w rising ready))
