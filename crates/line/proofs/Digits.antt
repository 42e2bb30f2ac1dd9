-- The value of digits, read one by one.
use Rattle.std.proofs.Common.{◌≡◌, ℕ, ◌+◌, ◌-◌, ◌*◌, ◌^◌, ◌<◌, ◌≤◌, min, Bool, true, false, ◌&&◌, leb, List, [], ◌∷◌, length, Option, Some, None, IfSome, Iter, Bor, sym, refl, ap, ◌∙◌, pow-suc, add-one, arith}
use Rattle.std.specs.Bool.{then_some}
use Rattle.std.specs.Char.{is_ascii_digit}
use Rattle.std.specs.Iterator.{Yields, YieldsThen}
use Rattle.std.specs.List.{list_all, FoldsTo}
use Rattle.std.specs.Option.{MatchOption}
use Rattle.std.proofs.lemmas.Fn.{fronts}
use Rattle.std.proofs.lemmas.Bool.{and_parts, leb-true}
use Rattle.std.proofs.Math.Nat.{pow-le-pow_right}
use Rattle.line.specs.Grammar.{number, is_number, value_from}

-- a value with one more digit behind it
abbrev pub digit_more : ℕ → ℕ → Option ℕ
digit_more v x = then_some (is_ascii_digit x) (v * 10 + (x - 48))

-- what was read and what is left are as many as the digits
pub left_after : (xs : List (Bor ℕ)) (s t : Iter ℕ) → Yields fronts s xs t →
    length s.rest.now ≡ length xs + length t.rest.now
left_after [] s t e = omega (arith, ap (λ i. length i.rest.now) e)
left_after (x ∷ xs) s t e = omega (arith, ap length e.1, left_after xs e.0 t e.2)

-- a digit more makes the value less than ten times as large
pub below_more : (b : Bool) (v w x n : ℕ) → v < 10 ^ n → is_ascii_digit x ≡ b →
    then_some b (v * 10 + (x - 48)) ≡ Some w → w < 10 ^ (n + 1)
below_more false v w x n low same h = cc
below_more true v w x n low same h =
    let digit = and_parts (leb 48 x) (leb x 57) same in
    let e : v * 10 + (x - 48) ≡ w = cc in
    rw (add-one, pow-suc) (omega (arith, leb-true x 57 digit.1))

-- four digits leave room for one more
pub room_for_digit : (v n : ℕ) → v < 10 ^ n → n ≤ 4 → v < 10 ^ 5
room_for_digit v n low few = omega (arith, pow-le-pow_right {n = 10} (omega arith) few)

-- the value of digits behind a value, or none where a byte is none
abbrev pub spelt : ℕ → List ℕ → Option ℕ
spelt v xs = then_some (list_all is_ascii_digit xs) (value_from v xs)

-- without a byte the value stays
spelt_end : (v : ℕ) (xs : List ℕ) → length xs ≡ 0 → Some v ≡ spelt v xs
spelt_end v [] h = refl
spelt_end v (x ∷ xs) h = absurd (omega arith)

-- a byte that is no digit ends it
spelt_stop : (v x : ℕ) (xs : List ℕ) → digit_more v x ≡ None → None ≡ spelt v (x ∷ xs)
spelt_stop v x xs = go (is_ascii_digit x)
  where
    go : (b : Bool) → then_some b (v * 10 + (x - 48)) ≡ None →
        None ≡ then_some (b && list_all is_ascii_digit xs) (value_from v (x ∷ xs))
    go true h = cc
    go false h = refl

-- a digit goes over into the value
spelt_step : (v x w : ℕ) (xs : List ℕ) → digit_more v x ≡ Some w → spelt w xs ≡ spelt v (x ∷ xs)
spelt_step v x w xs = go (is_ascii_digit x)
  where
    go : (b : Bool) → then_some b (v * 10 + (x - 48)) ≡ Some w →
        spelt w xs ≡ then_some (b && list_all is_ascii_digit xs) (value_from v (x ∷ xs))
    go true h = let e : v * 10 + (x - 48) ≡ w = cc in ap (λ n. spelt n xs) (sym e)
    go false h = cc

-- turns that go on at digits, and stop at a byte that is none, give what the digits spell
module _ {F : Type 0} (Turn : F × ℕ → Bor ℕ → F × ℕ → Type 0) (q : F × ℕ) (Stop : Bor ℕ → Type 0) (r : Option ℕ)
    (turns : (p : F × ℕ) (x : Bor ℕ) (t : F × ℕ) → Turn p x t → digit_more p.1 x.now ≡ Some t.1)
    (stops : (x : Bor ℕ) → Stop x → (digit_more q.1 x.now ≡ None) × (r ≡ None)) where
  pub spells : (xs : List (Bor ℕ)) (o : Option (Bor ℕ)) (p : F × ℕ) (s u : Iter ℕ) → YieldsThen fronts s xs o u →
      FoldsTo Turn p xs q → MatchOption o (r ≡ Some q.1) Stop → r ≡ spelt p.1 s.rest.now
  spells [] None p s u y c h =
      h ∙ ap (λ k. Some k.1) (sym c) ∙ spelt_end p.1 s.rest.now (ap (λ i. length i.rest.now) y.1 ∙ y.2.0)
  spells [] (Some x) p s u y c h =
      let stop = stops x h in
      stop.1 ∙ spelt_stop q.1 x.now u.rest.now stop.0 ∙ ap (λ k. spelt k.1 (x.now ∷ u.rest.now)) (sym c)
      ∙ ap (spelt p.1) (sym (ap (λ i. i.rest.now) y.1 ∙ y.2))
  spells (x ∷ xs) o p s u y c h =
      spells xs o c.0 y.1.0 u (y.0, y.1.2, y.2) c.2 h ∙ spelt_step p.1 x.now c.0.1 y.1.0.rest.now (turns p x c.0 c.1)
      ∙ ap (spelt p.1) (sym y.1.1)

-- a number is at most the largest, and takes a byte at least
pub number_bounds : (largest : ℕ) (xs : List ℕ) →
    IfSome (number largest xs) (λ n. (n ≤ largest) × (0 < length xs))
number_bounds largest [] = tt
number_bounds largest (x ∷ xs) = go (is_number (x ∷ xs))
  where
    go : (b : Bool) →
        IfSome (then_some b (min (value_from 0 (x ∷ xs)) largest)) (λ n. (n ≤ largest) × (0 < length (x ∷ xs)))
    go true = (omega arith, omega arith)
    go false = tt
