use Rattle.std.proofs.Common.{◌≡◌, ℕ, ◌<◌, false, eqb, get_or, None}
use Rattle.flow.specs.Rules.{repeats}
use Rattle.flow.proofs.scan.first_repeat.Given as goal

abbrev pub invariant-search : goal.invariant-search
invariant-search l = (l.found ≡ None) × ((k : ℕ) → k < l.later → repeats l.devices k ≡ false)

abbrev pub invariant-loop-earlier : goal.invariant-loop-earlier
invariant-loop-earlier l =
    (l.found ≡ None) × ((k : ℕ) → k < l.earlier → eqb (get_or l.devices k 0) (get_or l.devices l.later 0) ≡ false)
