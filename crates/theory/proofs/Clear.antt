-- Sets without conflicts, and what their parts are.
use Rattle.std.proofs.Common.{◌≡◌, ℕ, ◌+◌, ◌≤◌, Bool, true, false, not, ◌&&◌, ◌||◌, eqb, ltb, leb, List, [], ◌∷◌, ◌++◌, length, sym, refl, ap, ◌∙◌, arith, length-append}
use Rattle.std.proofs.lemmas.Bool.{and_parts, and_from, leb-true, le-leb, both_ways}
use Rattle.std.proofs.lemmas.Bool.Decides.{nat_tests}
use Rattle.std.proofs.lemmas.List.{length_push}
use Rattle.frame.specs.declared.hop.Hop.{Hop}
use Rattle.frame.specs.Frames.{FrameSpec}
use Rattle.frame.specs.Sets.{clash, next_hop, clear, conflict_free, sendable}
use Rattle.theory.specs.Greedy.{joins}

-- a test of two numbers, the other way round
eqb_swap : (a b : ℕ) → eqb a b ≡ eqb b a
eqb_swap a b = grind (arith, nat_tests)

-- two hops share a device whichever is named first
pub clash_swap : (a b : Hop) → clash a b ≡ clash b a
clash_swap a b =
    rw (
      eqb_swap a.sender b.sender,
      eqb_swap a.sender b.receiver,
      eqb_swap a.receiver b.sender,
      eqb_swap a.receiver b.receiver,
    )
    (inner (eqb b.sender a.sender) (eqb b.receiver a.sender) (eqb b.sender a.receiver)
    (eqb b.receiver a.receiver))
  where
    inner : (w x y z : Bool) → ((w || x) || (y || z)) ≡ ((w || y) || (x || z))
    inner true x y z = refl
    inner false true true z = refl
    inner false true false z = refl
    inner false false true z = refl
    inner false false false z = refl

module _ (f : FrameSpec) (p : List ℕ) where
  -- a leg is clear of two sets in one
  pub clear-append : (i : ℕ) (xs ys : List ℕ) → clear f p i (xs ++ ys) ≡ (clear f p i xs && clear f p i ys)
  clear-append i [] ys = refl
  clear-append i (x ∷ xs) ys =
      ap (λ b. not (clash (next_hop f p i) (next_hop f p x)) && b) (clear-append i xs ys)
      ∙ regroup (not (clash (next_hop f p i) (next_hop f p x))) (clear f p i xs) (clear f p i ys)
    where
      regroup : (a b c : Bool) → (a && (b && c)) ≡ ((a && b) && c)
      regroup true b c = refl
      regroup false b c = refl

  -- one more leg at the end has no conflict where it is clear of those before it
  pub conflict_free_push : (xs : List ℕ) (y : ℕ) → conflict_free f p (xs ++ y ∷ []) ≡ (conflict_free f p xs && clear f p y xs)
  conflict_free_push [] y = refl
  conflict_free_push (x ∷ xs) y =
      rw (clear-append x xs (y ∷ []), conflict_free_push xs y, clash_swap (next_hop f p x) (next_hop f p y))
      (regroup (clear f p x xs) (not (clash (next_hop f p y) (next_hop f p x))) (conflict_free f p xs) (clear f p y xs))
    where
      regroup : (a b c d : Bool) → ((a && (b && true)) && (c && d)) ≡ ((a && c) && (b && d))
      regroup true true c d = sym (ap (λ e. c && e) refl)
      regroup true false true d = refl
      regroup true false false d = refl
      regroup false b c d = refl

  -- the front of a set without conflict has none
  pub conflict_free_front : (xs ys : List ℕ) → conflict_free f p (xs ++ ys) ≡ true → conflict_free f p xs ≡ true
  conflict_free_front [] ys e = refl
  conflict_free_front (x ∷ xs) ys e =
      let h = and_parts (clear f p x (xs ++ ys)) (conflict_free f p (xs ++ ys)) e in
      and_from (clear f p x xs) (conflict_free f p xs)
      (and_parts (clear f p x xs) (clear f p x ys) (sym (clear-append x xs ys) ∙ h.0)).0 (conflict_free_front xs ys h.1)

  -- the front of a sendable set is sendable
  pub sendable-front : (xs ys : List ℕ) → sendable f p (xs ++ ys) ≡ true → sendable f p xs ≡ true
  sendable-front xs ys e =
      let h = and_parts (leb (length (xs ++ ys)) f.channels) (conflict_free f p (xs ++ ys)) e in
      let short : length xs ≤ f.channels =
      omega (arith, length-append xs ys, leb-true (length (xs ++ ys)) f.channels h.0) in
      and_from (leb (length xs) f.channels) (conflict_free f p xs) (le-leb (length xs) f.channels short)
      (conflict_free_front xs ys h.1)

  -- a set that begins with one that cannot be sent cannot be sent
  pub unsendable_longer : (xs ys : List ℕ) → sendable f p xs ≡ false → sendable f p (xs ++ ys) ≡ false
  unsendable_longer xs ys e = go (sendable f p (xs ++ ys)) refl
    where
      go : (b : Bool) → sendable f p (xs ++ ys) ≡ b → b ≡ false
      go true h = absurd (both_ways (sendable f p xs) e (sendable-front xs ys h))
      go false h = refl

  -- a leg joins a sendable set exactly where the set with it is sendable
  pub joins-sendable : (xs : List ℕ) (y : ℕ) → sendable f p xs ≡ true → joins f p xs y ≡ sendable f p (xs ++ y ∷ [])
  joins-sendable xs y e =
      rw (length_push xs y, conflict_free_push xs y, (and_parts (leb (length xs) f.channels) (conflict_free f p xs) e).1)
      (ap (λ b. b && clear f p y xs) room)
    where
      room : ltb (length xs) f.channels ≡ leb (length xs + 1) f.channels
      room = grind (arith, nat_tests)
