use Rattle.std.proofs.Common.{◌≡◌, ℕ, ◌+◌, ◌-◌, ◌*◌, ◌%◌, ◌<◌, ◌≤◌, ap, ◌∙◌, mul-le-mul, mul-pos, arith}
use native.Mathlib.Nat.{dvd_of_mod-eq-zero, dvd-sub, le_of_dvd, add-mod_right, mul-mod_left, mul-mod_right}
use Rattle.table.proofs.frame.lcm.Goals as goal

-- multiples of a are a apart
apart : (a m k : ℕ) → m % a ≡ 0 → k % a ≡ 0 → m < k → m + a ≤ k
apart a m k of-m of-k below =
    let least = le_of_dvd {m = a} {n = k - m} (omega arith) (dvd-sub a (dvd_of_mod-eq-zero a of-k) (dvd_of_mod-eq-zero a of-m)) in
    omega arith

-- where b does not divide m, a common multiple is past the next multiple of a
next : (c : goal.In-loop-m) (k : ℕ) → 1 ≤ k → k % c.args.a ≡ 0 → k % c.args.b ≡ 0 → c.loop-m.m + c.args.a ≤ k
next c k from of-a of-b =
    let ne : c.loop-m.m ≡ k → ⊥ = λ e. c.loop-m-test.true (ap (λ n. n % c.args.b) e ∙ of-b) in
    let low = c.loop-m.invariant.2 k from of-a of-b in
    apart c.args.a c.loop-m.m k c.loop-m.invariant.1 of-a (omega arith)

-- and so is the product
within : (c : goal.In-loop-m) → c.loop-m.m + c.args.a ≤ c.args.a * c.args.b
within c =
    let a = c.args.a in
    let b = c.args.b in
    next c (a * b) (mul-pos c.requires.some.0 c.requires.some.1) (mul-mod_right a b) (mul-mod_left a b)

pub overflow_add-m : goal.overflow_add-m
overflow_add-m c =
    let most = mul-le-mul c.requires.few.0 c.requires.few.1 in omega (arith, within c)

pub loop-m-smaller : goal.loop-m-smaller
loop-m-smaller c = omega (arith, within c)

pub loop-m-preserved : goal.loop-m-preserved
loop-m-preserved c = (omega arith, add-mod_right c.loop-m.m c.args.a ∙ c.loop-m.invariant.1, next c)
