-- What stands in a list.
use Rattle.std.proofs.Common.{◌≡◌, ℕ, zero, suc, ◌+◌, ◌-◌, ◌<◌, ◌≤◌, Bool, true, false, cond, ◌&&◌, leb, ◌⊎◌, List, [], ◌∷◌, ◌++◌, map, count_by, filter, sym, refl, ap, ◌∙◌, subst, inl, inr, arith}
use Rattle.std.specs.List.{range_with_len, flat_map}
use Rattle.std.proofs.lemmas.List.Sums.{sum_by-cons}
use Rattle.std.proofs.lemmas.Bool.{true≢false, cases_eq, cases_lt, and_left, le-leb, lt-leb}

-- x stands in the list
abbrev pub In : {X : Type 0} → X → List X → Type 0
In x [] = ⊥
In x (y ∷ ys) = (x ≡ y) ⊎ In x ys

-- what a map gives
pub in_map : {X Y : Type 0} (g : X → Y) (xs : List X) (y : Y) → In y (map g xs) → (x : X) × In x xs × (y ≡ g x)
in_map g [] y h = absurd h
in_map g (x ∷ xs) y (inl e) = (x, inl refl, e)
in_map g (x ∷ xs) y (inr h) = let more = in_map g xs y h in (more.0, inr more.1, more.2)

-- what a map makes of an element
pub map_in : {X Y : Type 0} (g : X → Y) (xs : List X) (x : X) → In x xs → In (g x) (map g xs)
map_in g [] x h = absurd h
map_in g (y ∷ ys) x (inl e) = inl (ap g e)
map_in g (y ∷ ys) x (inr h) = inr (map_in g ys x h)

-- what stands in one part of a list
pub in_left : {X : Type 0} (xs ys : List X) (x : X) → In x xs → In x (xs ++ ys)
in_left [] ys x h = absurd h
in_left (y ∷ xs) ys x (inl e) = inl e
in_left (y ∷ xs) ys x (inr h) = inr (in_left xs ys x h)

pub in_right : {X : Type 0} (xs ys : List X) (x : X) → In x ys → In x (xs ++ ys)
in_right [] ys x h = h
in_right (y ∷ xs) ys x h = inr (in_right xs ys x h)

pub in_parts : {X : Type 0} (xs ys : List X) (x : X) → In x (xs ++ ys) → In x xs ⊎ In x ys
in_parts [] ys x h = inr h
in_parts (y ∷ xs) ys x (inl e) = inl (inl e)
in_parts (y ∷ xs) ys x (inr h) = elim (in_parts xs ys x h) [ inl i ↦ inl (inr i) | inr i ↦ inr i ]

-- what one of the lists has, the lists joined have
pub in_joined : {X Y : Type 0} (g : X → List Y) (xs : List X) (x : X) (y : Y) → In x xs → In y (g x) → In y (flat_map g xs)
in_joined g [] x y h k = absurd h
in_joined {X} {Y} g (z ∷ xs) x y (inl e) k = in_left (g z) (flat_map g xs) y (subst (λ (w : X). In y (g w)) e k)
in_joined g (z ∷ xs) x y (inr h) k = in_right (g z) (flat_map g xs) y (in_joined g xs x y h k)

pub joined_in : {X Y : Type 0} (g : X → List Y) (xs : List X) (y : Y) → In y (flat_map g xs) → (x : X) × In x xs × In y (g x)
joined_in g [] y h = absurd h
joined_in {X} {Y} g (z ∷ xs) y h = go (in_parts (g z) (flat_map g xs) y h) (joined_in g xs y)
  where
    go : In y (g z) ⊎ In y (flat_map g xs) → (In y (flat_map g xs) → (x : X) × In x xs × In y (g x)) → (x : X) × In x (z ∷ xs) × In y (g x)
    go (inl h) rest = (z, inl refl, h)
    go (inr h) rest = let more = rest h in (more.0, inr more.1, more.2)

-- the numbers from a on
pub counting_in : (n a k : ℕ) → In k (range_with_len a n) → (a ≤ k) × (k < a + n)
counting_in zero a k h = absurd h
counting_in (suc n) a k (inl e) = (omega arith, omega arith)
counting_in (suc n) a k (inr h) = let more = counting_in n (a + 1) k h in (omega arith, omega arith)

pub in_counting : (n a k : ℕ) → a ≤ k → k < a + n → In k (range_with_len a n)
in_counting zero a k low high = absurd (omega arith)
in_counting (suc n) a k low high = go (cases_eq k a) (in_counting n (a + 1) k)
  where
    go : (k ≡ a) ⊎ (k ≡ a → ⊥) → (a + 1 ≤ k → k < (a + 1) + n → In k (range_with_len (a + 1) n)) → In k (range_with_len a (suc n))
    go (inl e) rest = inl e
    go (inr no') rest = inr (rest (omega arith) (omega arith))

-- what a filter keeps
in_kept_step : {X : Type 0} (q : X → Bool) (y : X) (ys ks : List X) (x : X) (rest : In x ks → In x ys × (q x ≡ true)) (b : Bool) → q y ≡ b →
    In x (cond b (y ∷ ks) ks) → In x (y ∷ ys) × (q x ≡ true)
in_kept_step q y ys ks x rest true is (inl e) = (inl e, ap q e ∙ is)
in_kept_step q y ys ks x rest true is (inr h) = let more = rest h in (inr more.0, more.1)
in_kept_step q y ys ks x rest false is h = let more = rest h in (inr more.0, more.1)

pub in_kept : {X : Type 0} (q : X → Bool) (xs : List X) (x : X) → In x (filter q xs) → In x xs × (q x ≡ true)
in_kept q [] x h = absurd h
in_kept q (y ∷ ys) x h = in_kept_step q y ys (filter q ys) x (in_kept q ys x) (q y) refl h

-- what passes is kept
kept_in_step : {X : Type 0} (q : X → Bool) (y : X) (ys ks : List X) (x : X) (rest : In x ys → In x ks) → q x ≡ true → (b : Bool) → q y ≡ b →
    In x (y ∷ ys) → In x (cond b (y ∷ ks) ks)
kept_in_step q y ys ks x rest e true is (inl same) = inl same
kept_in_step q y ys ks x rest e true is (inr h) = inr (rest h)
kept_in_step q y ys ks x rest e false is (inl same) = absurd (true≢false (sym e ∙ ap q same ∙ is))
kept_in_step q y ys ks x rest e false is (inr h) = rest h

pub kept_in : {X : Type 0} (q : X → Bool) (xs : List X) (x : X) → In x xs → q x ≡ true → In x (filter q xs)
kept_in q [] x h e = absurd h
kept_in q (y ∷ ys) x h e = kept_in_step q y ys (filter q ys) x (λ t. kept_in q ys x t e) e (q y) refl h

module _ {X : Type 0} (q : X → Bool) where
  -- one more that passes
  pub count_yes : (x : X) (xs : List X) → q x ≡ true → count_by q (x ∷ xs) ≡ 1 + count_by q xs
  count_yes x xs e = sum_by-cons (λ y. cond (q y) 1 0) x xs ∙ ap (λ b. cond b 1 0 + count_by q xs) e

  -- one more that does not
  pub count_no : (x : X) (xs : List X) → q x ≡ false → count_by q (x ∷ xs) ≡ count_by q xs
  count_no x xs e =
      let one : count_by q (x ∷ xs) ≡ 0 + count_by q xs = sum_by-cons (λ y. cond (q y) 1 0) x xs ∙ ap (λ b. cond b 1 0 + count_by q xs) e in
      omega arith

  -- one that passes is counted
  pub count-some : (xs : List X) (x : X) → In x xs → q x ≡ true → 0 < count_by q xs
  count-some [] x h e = absurd h
  count-some (y ∷ ys) x (inl same) e = omega (arith, count_yes y ys (ap q (sym same) ∙ e))
  count-some (y ∷ ys) x (inr h) e =
      omega (arith, sum_by-cons (λ z. cond (q z) 1 0) y ys, count-some ys x h e)

  -- some one passes
  pub counted : (xs : List X) → 0 < count_by q xs → (x : X) × In x xs × (q x ≡ true)
  counted [] h = absurd (omega arith)
  counted (x ∷ xs) h = go (q x) refl (counted xs)
    where
      go : (b : Bool) → q x ≡ b → (0 < count_by q xs → (y : X) × In y xs × (q y ≡ true)) → (y : X) × In y (x ∷ xs) × (q y ≡ true)
      go true is rest = (x, inl refl, is)
      go false is rest = let more = rest (omega (arith, count_no x xs is)) in (more.0, inr more.1, more.2)

-- counts of what a function makes, of what a filter keeps, and by two tests that agree
pub count_map : {X Y : Type 0} (q : Y → Bool) (g : X → Y) (xs : List X) → count_by q (map g xs) ≡ count_by (λ x. q (g x)) xs
count_map q g [] = refl
count_map q g (x ∷ xs) =
    sum_by-cons (λ y. cond (q y) 1 0) (g x) (map g xs)
    ∙ ap (λ n. cond (q (g x)) 1 0 + n) (count_map q g xs)
    ∙ sym (sum_by-cons (λ y. cond (q (g y)) 1 0) x xs)

pub count_same : {X : Type 0} (q r : X → Bool) (same : (x : X) → q x ≡ r x) (xs : List X) → count_by q xs ≡ count_by r xs
count_same q r same [] = refl
count_same q r same (x ∷ xs) =
    sum_by-cons (λ y. cond (q y) 1 0) x xs
    ∙ ap (λ b. cond b 1 0 + count_by q xs) (same x)
    ∙ ap (λ n. cond (r x) 1 0 + n) (count_same q r same xs)
    ∙ sym (sum_by-cons (λ y. cond (r y) 1 0) x xs)

count_kept_step : {X : Type 0} (q r : X → Bool) (x : X) (xs : List X) (b : Bool) → r x ≡ b →
    count_by q (filter r xs) ≡ count_by (λ y. r y && q y) xs →
    count_by q (cond b (x ∷ filter r xs) (filter r xs)) ≡ count_by (λ y. r y && q y) (x ∷ xs)
count_kept_step q r x xs true is rest =
    sum_by-cons (λ y. cond (q y) 1 0) x (filter r xs)
    ∙ ap (λ n. cond (q x) 1 0 + n) rest
    ∙ ap (λ b. cond (b && q x) 1 0 + count_by (λ y. r y && q y) xs) (sym is)
    ∙ sym (sum_by-cons (λ y. cond (r y && q y) 1 0) x xs)
count_kept_step q r x xs false is rest = rest ∙ sym (count_no (λ y. r y && q y) x xs (and_left (r x) (q x) is))

pub count_kept : {X : Type 0} (q r : X → Bool) (xs : List X) → count_by q (filter r xs) ≡ count_by (λ x. r x && q x) xs
count_kept q r [] = refl
count_kept q r (x ∷ xs) = count_kept_step q r x xs (r x) refl (count_kept q r xs)

-- a filter of a map, and two filters in turn
kept_map_step : {X Y : Type 0} (g : X → Y) (x : X) (ks : List Y) (js : List X) (b : Bool) → ks ≡ map g js →
    cond b (g x ∷ ks) ks ≡ map g (cond b (x ∷ js) js)
kept_map_step g x ks js true rest = ap (λ l. g x ∷ l) rest
kept_map_step g x ks js false rest = rest

pub kept_map : {X Y : Type 0} (q : Y → Bool) (g : X → Y) (xs : List X) → filter q (map g xs) ≡ map g (filter (λ x. q (g x)) xs)
kept_map q g [] = refl
kept_map q g (x ∷ xs) =
    kept_map_step g x (filter q (map g xs)) (filter (λ y. q (g y)) xs) (q (g x)) (kept_map q g xs)

kept_swap_step : {X : Type 0} (q r : X → Bool) (x : X) (xs : List X) (b c : Bool) → q x ≡ b → r x ≡ c →
    filter q (filter r xs) ≡ filter r (filter q xs) →
    filter q (cond c (x ∷ filter r xs) (filter r xs)) ≡ filter r (cond b (x ∷ filter q xs) (filter q xs))
kept_swap_step q r x xs true true is are rest = rw (is, are) (ap (λ l. x ∷ l) rest)
kept_swap_step q r x xs true false is are rest = rw are rest
kept_swap_step q r x xs false true is are rest = rw is rest
kept_swap_step q r x xs false false is are rest = rest

pub kept_swap : {X : Type 0} (q r : X → Bool) (xs : List X) → filter q (filter r xs) ≡ filter r (filter q xs)
kept_swap q r [] = refl
kept_swap q r (x ∷ xs) = kept_swap_step q r x xs (q x) (r x) refl refl (kept_swap q r xs)

-- of the numbers from a on, those from d on
pub kept_all : (n a d : ℕ) → d ≤ a → filter (leb d) (range_with_len a n) ≡ range_with_len a n
kept_all zero a d h = refl
kept_all (suc n) a d h = rw (le-leb d a h) (ap (λ l. a ∷ l) (kept_all n (a + 1) d (omega arith)))

pub kept_from : (n a d : ℕ) → a ≤ d → filter (leb d) (range_with_len a n) ≡ range_with_len d ((a + n) - d)
kept_from zero a d h = let none : (a + 0) - d ≡ 0 = omega arith in rw none
kept_from (suc n) a d h = go (cases_lt a d) (kept_from n (a + 1) d)
  where
    go : (a < d) ⊎ (d ≤ a) → (a + 1 ≤ d → filter (leb d) (range_with_len (a + 1) n) ≡ range_with_len d (((a + 1) + n) - d)) →
        filter (leb d) (range_with_len a (suc n)) ≡ range_with_len d ((a + suc n) - d)
    go (inl lt) rest =
        let same : ((a + 1) + n) - d ≡ (a + suc n) - d = omega arith in
        rw (lt-leb d a lt) (rest (omega arith) ∙ ap (range_with_len d) same)
    go (inr le) rest =
        let here : a ≡ d = omega arith in
        let all : (a + suc n) - d ≡ suc n = omega arith in
        kept_all (suc n) a d le ∙ ap (λ k. range_with_len k (suc n)) here ∙ ap (range_with_len d) (sym all)
