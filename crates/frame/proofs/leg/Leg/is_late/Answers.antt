use Rattle.std.proofs.Common.{◌+◌, ◌-◌, max, ltb, length, sym, ap, ◌∙◌, arith}
use Rattle.frame.specs.Legs.{leg_spec}
use Rattle.frame.proofs.Reading.{leg-size}
use Rattle.frame.proofs.Late.{none-late, late-leg}
use Rattle.frame.proofs.leg.Leg.is_late.Goals as goal

pub returns-then-done-self : goal.returns-then-done-self
returns-then-done-self c =
    let l = c.args.self.now in
    sym (none-late (length (leg_spec l).hops) l.due (max l.release c.args.slot) c.args.done
    (omega (arith, leg-size l)))

pub returns : goal.returns
returns c =
    let l = c.args.self.now in
    let n = length (leg_spec l).hops in
    ap (λ k. ltb (l.due + 1) (c.max.result + (k - c.args.done))) (sym (leg-size l))
    ∙ ap (λ m. ltb (l.due + 1) (m + (n - c.args.done))) c.max.ensures
    ∙ sym (late-leg n l.due (max l.release c.args.slot) c.args.done (omega (arith, leg-size l)))
