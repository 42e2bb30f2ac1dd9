-- What the code reads of legs, as the rules see it.
use Rattle.std.proofs.Common.{◌≡◌, ℕ, ◌<◌, Bool, List, map, length, get_or, sym, ap, ◌∙◌, arith}
use Rattle.std.specs.List.{list_all, list_any, enumerate_from}
use Rattle.std.proofs.lemmas.List.{get_or-map, length-map, length-take-le}
use Rattle.frame.specs.declared.leg.Leg.{Leg}
use Rattle.frame.specs.Below.{all_below, some_below}
use Rattle.frame.proofs.Scans.{all-enumerated, some-enumerated}
use Rattle.frame.specs.Legs.{LegSpec, leg_spec}
use Rattle.frame.specs.Frames.{FrameSpec, no_leg, leg_at, leg_count}

-- a leg has `count` hops
pub leg-size : (l : Leg) → length (leg_spec l).hops ≡ l.count
leg-size l = length-take-le l.count l.hops (omega (arith, l.places, l.few))

-- the leg that the code reads at i
pub leg_at_lem : (legs : List Leg) (i : ℕ) (x : Leg) → i < length legs → x ≡ get_or legs i x → get_or (map leg_spec legs) i no_leg ≡ leg_spec x
leg_at_lem legs i x h is = get_or-map leg_spec legs i x no_leg h ∙ ap leg_spec (sym is)

-- the legs that the code reads are those of a frame
module _ (f : FrameSpec) (legs : List Leg) (seen : map leg_spec legs ≡ f.legs) where
  -- the frame's leg at i
  pub frame-leg : (i : ℕ) (x : Leg) → i < length legs → x ≡ get_or legs i x → leg_at f i ≡ leg_spec x
  frame-leg i x h is = ap (λ ls. get_or ls i no_leg) (sym seen) ∙ leg_at_lem legs i x h is

  -- as many legs
  pub frame-count : leg_count f ≡ length legs
  frame-count = ap length (sym seen) ∙ length-map legs leg_spec

  -- a test of the numbered legs
  pub frame-all : (test : ℕ → LegSpec → Bool) →
      list_all (λ x. test x.0 (leg_spec x.1)) (enumerate_from 0 legs) ≡ all_below (leg_count f) (λ i. test i (leg_at f i))
  frame-all test =
      all-enumerated leg_spec test 0 legs no_leg (λ i. test i (leg_at f i))
      (λ i j on lt. ap (λ k. test k (get_or (map leg_spec legs) i no_leg)) (omega arith) ∙ ap (λ ls. test i (get_or ls i no_leg)) seen)
      ∙ ap (λ n. all_below n (λ i. test i (leg_at f i))) (sym frame-count)

  -- the same of some leg
  pub frame-some : (test : ℕ → LegSpec → Bool) →
      list_any (λ x. test x.0 (leg_spec x.1)) (enumerate_from 0 legs) ≡ some_below (leg_count f) (λ i. test i (leg_at f i))
  frame-some test =
      some-enumerated leg_spec test 0 legs no_leg (λ i. test i (leg_at f i))
      (λ i j on lt. ap (λ k. test k (get_or (map leg_spec legs) i no_leg)) (omega arith) ∙ ap (λ ls. test i (get_or ls i no_leg)) seen)
      ∙ ap (λ n. some_below n (λ i. test i (leg_at f i))) (sym frame-count)
