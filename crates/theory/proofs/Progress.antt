-- Progress, and what a set that is sent makes of it.
use Rattle.std.proofs.Common.{◌≡◌, ℕ, zero, suc, ◌+◌, ◌<◌, ◌≤◌, true, leb, List, [], ◌∷◌, length, get_or, set, replicate, sum, sym, refl, ap, ◌∙◌, subst, ⊎_elim, arith}
use Rattle.std.specs.List.{ContainsAt as Has}
use Rattle.std.proofs.lemmas.List.{length-set, get_or_past, get_or-set_same, get_or-set_other}
use Rattle.std.proofs.lemmas.List.Sums.{sum_by-cons, sum_by-set}
use Rattle.std.proofs.lemmas.Bool.{and_from, and_parts, le-leb, leb-true, false≢true, cases_lt}
use Rattle.frame.specs.Legs.{LegSpec, hop_total}
use Rattle.frame.specs.Frames.{FrameSpec, leg_count, size_of, no_leg}
use Rattle.frame.specs.States.{fits, released, done_of, complete}
use Rattle.frame.specs.Sets.{sent}
use Rattle.frame.specs.Quick.{untouched}
use Rattle.frame.specs.Grids.{Distinct}
use Rattle.frame.proofs.Fits as fitness
use Rattle.frame.proofs.Scans.{all_decides}
use Rattle.theory.proofs.Members.{has_or_not, has_none, has_here, has_there, has_cases}
use Rattle.theory.proofs.Chosen.{released_below, released-left}

-- progress keeps one number for each leg
pub length-sent : (set p : List ℕ) → length (sent set p) ≡ length p
length-sent [] p = refl
length-sent (i ∷ is) p = length-sent is (set p i (done_of p i + 1)) ∙ length-set p i (done_of p i + 1)

-- a leg outside the set goes no further
pub done_sent_other : (set p : List ℕ) (i : ℕ) → (Has set i → ⊥) → done_of (sent set p) i ≡ done_of p i
done_sent_other [] p i out = refl
done_sent_other (j ∷ js) p i out =
    done_sent_other js (set p j (done_of p j + 1)) i (λ h. out (has_there j js i h))
    ∙ get_or-set_other p j i (done_of p j + 1) 0 (λ e. out (subst (λ z. Has (j ∷ js) z) (sym e) (has_here j js)))

-- a leg of the set has one more hop done
pub done_sent : (set p : List ℕ) (i : ℕ) → Distinct set → Has set i → i < length p → done_of (sent set p) i ≡ done_of p i + 1
done_sent [] p i d h below = absurd (has_none i h)
done_sent (j ∷ js) p i (out, d) h below =
    ⊎_elim (λ e. here i e below)
    (λ r. done_sent js next i d r (omega (arith, length-set p j (done_of p j + 1)))
    ∙ ap (λ n. n + 1) (get_or-set_other p j i (done_of p j + 1) 0 (λ e. out (subst (λ z. Has js z) e r)))) (has_cases j js i h)
  where
    next : List ℕ
    next = set p j (done_of p j + 1)

    here : (z : ℕ) → j ≡ z → z < length p → done_of (sent (j ∷ js) p) z ≡ done_of p z + 1
    here z e =
        subst (λ z. z < length p → done_of (sent (j ∷ js) p) z ≡ done_of p z + 1) e
        (λ l. done_sent_other js next j out ∙ get_or-set_same p j (done_of p j + 1) 0 l)

-- the hops done rise by one for each leg of the set
pub sum-sent : (set p : List ℕ) → ((i : ℕ) → Has set i → i < length p) → sum (sent set p) ≡ sum p + length set
sum-sent [] p below = omega arith
sum-sent (i ∷ is) p below =
    let l = length-set p i (done_of p i + 1) in
    let rest = sum-sent is (set p i (done_of p i + 1)) (λ j h. let b = below j (has_there i is j h) in omega arith) in
    let more = sum_by-set (λ x. x) p i (done_of p i + 1) 0 (below i (has_here i is)) in
    omega arith

-- one number for each leg
pub fits-length : (legs : List LegSpec) (p : List ℕ) → fits legs p ≡ true → length p ≡ length legs
fits-length legs p e = (fitness.fitting legs p e).each

-- none above the leg's hops
pub fits-within : (legs : List LegSpec) (p : List ℕ) → fits legs p ≡ true → (i : ℕ) → get_or p i 0 ≤ length (get_or legs i no_leg).hops
fits-within legs p e i =
    let h = fitness.fitting legs p e in
    ⊎_elim (λ (lt : i < length legs). h.most i lt)
    (λ (past : length legs ≤ i). omega (arith, get_or_past p i 0 (omega (arith, h.each)))) (cases_lt i (length legs))

-- at most all hops are done
pub fits_sum : (legs : List LegSpec) (p : List ℕ) → fits legs p ≡ true → sum p ≤ hop_total legs
fits_sum [] [] e = omega arith
fits_sum [] (n ∷ ns) e = absurd (false≢true e)
fits_sum (l ∷ ls) [] e = absurd (false≢true e)
fits_sum (l ∷ ls) (n ∷ ns) e =
    let h = and_parts (leb n (length l.hops)) (fits ls ns) e in
    omega (
      arith,
      leb-true n (length l.hops) h.0,
      fits_sum ls ns h.1,
      sum_by-cons (λ x. x) n ns,
      sum_by-cons (λ l. length l.hops) l ls,
    )

-- no hop is done
pub fits-none : (legs : List LegSpec) → fits legs (replicate (length legs) 0) ≡ true
fits-none [] = refl
fits-none (l ∷ ls) =
    and_from (leb 0 (length l.hops)) (fits ls (replicate (length ls) 0)) (le-leb 0 (length l.hops) (omega arith)) (fits-none ls)

-- the sum of nothing
pub sum-none : (n : ℕ) → sum (replicate n 0) ≡ 0
sum-none zero = refl
sum-none (suc n) = omega (arith, sum_by-cons (λ x. x) 0 (replicate n 0), sum-none n)

-- every leg is at its end, so all hops are done
all_done_sum : (legs : List LegSpec) (p : List ℕ) → fits legs p ≡ true →
    ((i : ℕ) → i < length legs → length (get_or legs i no_leg).hops ≤ get_or p i 0) → sum p ≡ hop_total legs
all_done_sum [] [] e h = refl
all_done_sum [] (n ∷ ns) e h = absurd (false≢true e)
all_done_sum (l ∷ ls) [] e h = absurd (false≢true e)
all_done_sum (l ∷ ls) (n ∷ ns) e h =
    let parts = and_parts (leb n (length l.hops)) (fits ls ns) e in
    omega (
      arith,
      leb-true n (length l.hops) parts.0,
      h 0 (omega arith),
      all_done_sum ls ns parts.1 (λ i b. h (suc i) (omega arith)),
      sum_by-cons (λ x. x) n ns,
      sum_by-cons (λ l. length l.hops) l ls,
    )

module _ (f : FrameSpec) where
  -- the progress of a frame where nothing is done
  pub fits-untouched : fits f.legs (untouched f) ≡ true
  fits-untouched = fits-none f.legs

  -- it counts none
  pub sum-untouched : sum (untouched f) ≡ 0
  sum-untouched = sum-none (leg_count f)

  -- no leg has a hop done
  pub done_untouched : (i : ℕ) → done_of (untouched f) i ≡ 0
  done_untouched i = go (leg_count f) i
    where
      go : (n i : ℕ) → done_of (replicate n 0) i ≡ 0
      go zero i = refl
      go (suc n) zero = refl
      go (suc n) (suc i) = go n i

module _ (f : FrameSpec) (p : List ℕ) (ok : fits f.legs p ≡ true) where
  -- progress has a number for each released leg
  pub released-within : (s i : ℕ) → released f s p i ≡ true → i < length p
  released-within s i h = omega (arith, released_below f s p i h, fits-length f.legs p ok)

  -- a set of released legs keeps progress within the legs
  pub fits-sent : (s : ℕ) (set : List ℕ) → Distinct set → ((i : ℕ) → Has set i → released f s p i ≡ true) →
      fits f.legs (sent set p) ≡ true
  fits-sent s set d rel =
      fitness.fits-from f.legs (sent set p) (record {
        each = length-sent set p ∙ fits-length f.legs p ok;
        most = λ i b. ⊎_elim
            (λ h. omega (arith, released-left f s p i (rel i h), done_sent set p i d h (released-within s i (rel i h))))
            (λ out. omega (arith, fits-within f.legs p ok i, done_sent_other set p i out)) (has_or_not set i);
      })

  -- there are hops left for each leg of such a set
  pub sum_room : (s : ℕ) (set : List ℕ) → Distinct set → ((i : ℕ) → Has set i → released f s p i ≡ true) →
      sum p + length set ≤ hop_total f.legs
  sum_room s set d rel =
      omega (
        arith,
        fits_sum f.legs (sent set p) (fits-sent s set d rel),
        sum-sent set p (λ i h. released-within s i (rel i h)),
      )

  -- where all hops are done, progress counts them
  pub complete-sum : complete f p ≡ true → sum p ≡ hop_total f.legs
  complete-sum e =
      all_done_sum f.legs p ok
      (λ i b. leb-true (size_of f i) (done_of p i) ((all_decides (leg_count f) (λ i. leb (size_of f i) (done_of p i))).0 e i b))
