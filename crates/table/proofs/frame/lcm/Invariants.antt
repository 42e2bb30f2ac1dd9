use Rattle.std.proofs.Common.{◌≡◌, ℕ, ◌-◌, ◌*◌, ◌%◌, ◌≤◌}
use Rattle.table.proofs.frame.lcm.Given as goal

-- m is a multiple of a, and no common multiple is below it
abbrev pub invariant-loop-m : goal.invariant-loop-m
invariant-loop-m l = (1 ≤ l.m) × (l.m % l.a ≡ 0) × ((k : ℕ) → 1 ≤ k → k % l.a ≡ 0 → k % l.b ≡ 0 → l.m ≤ k)

abbrev pub decreases-loop-m : goal.decreases-loop-m
decreases-loop-m l = l.a * l.b - l.m
