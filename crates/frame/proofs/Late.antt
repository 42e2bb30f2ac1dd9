-- All undone hops of a leg can be in time, or none can.
use Rattle.std.proofs.Common.{◌≡◌, ℕ, ◌+◌, ◌-◌, ◌<◌, ◌≤◌, Bool, true, false, ◌&&◌, ltb, leb, pos, ◌-ℤ◌, refl, ◌∙◌, arith}
use lib.Signed.{lt_z}
use Rattle.std.proofs.lemmas.Int.{ints}
use Rattle.std.proofs.lemmas.Bool.{and_left, and_right, and_from, le-leb, lt-leb, lt-ltb, le-ltb, leb-true, ltb-true, ltb-false}
use Rattle.frame.specs.Below.{some_below}
use Rattle.frame.proofs.Scans.{some-hit, some-none}

-- r > d, without a difference
pub late_is : (due after first : ℕ) → lt_z (pos due -ℤ pos after) (pos first) ≡ ltb due (first + after)
late_is due after first = grind (arith, ints)

-- hop k of a leg of size n, of which done hops are done, is undone and late
abbrev late_at : ℕ → ℕ → ℕ → ℕ → ℕ → Bool
late_at n due start done k = (leb done k && ltb k n) && lt_z (pos due -ℤ pos (n - (k + 1))) (pos (start + (k - done)))

module _ (n due start done : ℕ) where
  -- where all hops are done, none is late
  pub none-late : n ≤ done → some_below n (late_at n due start done) ≡ false
  none-late h = some-none n (late_at n due start done) (λ k lt. and_left (leb done k && ltb k n)
      (lt_z (pos due -ℤ pos (n - (k + 1))) (pos (start + (k - done)))) (and_left (leb done k) (ltb k n) (lt-leb done k (omega arith))))

  -- one comparison for all undone hops
  pub late-leg : done < n → some_below n (late_at n due start done) ≡ ltb (due + 1) (start + (n - done))
  late-leg h = go (ltb (due + 1) (start + (n - done))) refl
    where
      miss : (k : ℕ) → k < n → start + (n - done) ≤ due + 1 → (b : Bool) → leb done k ≡ b → late_at n due start done k ≡ false
      miss k lt short false is = and_left (leb done k && ltb k n) (lt_z (pos due -ℤ pos (n - (k + 1))) (pos (start + (k - done))))
          (and_left (leb done k) (ltb k n) is)
      miss k lt short true is =
          let low : done ≤ k = leb-true done k is in
          and_right (leb done k && ltb k n) (lt_z (pos due -ℤ pos (n - (k + 1))) (pos (start + (k - done))))
          (late_is due (n - (k + 1)) (start + (k - done)) ∙ le-ltb due (start + (k - done) + (n - (k + 1))) (omega arith))

      go : (b : Bool) → ltb (due + 1) (start + (n - done)) ≡ b → some_below n (late_at n due start done) ≡ b
      go true is =
          let far : due + 1 < start + (n - done) = ltb-true (due + 1) (start + (n - done)) is in
          some-hit n (late_at n due start done) done h
          (and_from (leb done done && ltb done n) (lt_z (pos due -ℤ pos (n - (done + 1))) (pos (start + (done - done))))
          (and_from (leb done done) (ltb done n) (le-leb done done (omega arith)) (lt-ltb done n h))
          (late_is due (n - (done + 1)) (start + (done - done)) ∙ lt-ltb due (start + (done - done) + (n - (done + 1))) (omega arith)))
      go false is =
          let near : start + (n - done) ≤ due + 1 = ltb-false (due + 1) (start + (n - done)) is in
          some-none n (late_at n due start done) (λ k lt. miss k lt near (leb done k) refl)
