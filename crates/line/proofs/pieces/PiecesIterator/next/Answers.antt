use Rattle.std.proofs.Common.{length, ap, rules, arith}
use Rattle.line.proofs.Splits.{left_none}
use Rattle.line.proofs.pieces.PiecesIterator.next.Goals as goal

pub returns-in-None-clause-steps : goal.returns-in-None-clause-steps
returns-in-None-clause-steps c = left_none c.args.self.now c.in_ok-rest.rest c.in_ok-rest.was (search rules)

pub returns-in-None-clause-goes : goal.returns-in-None-clause-goes
returns-in-None-clause-goes c =
    record { on = λ _. (tt, tt, omega (arith, ap length (returns-in-None-clause-steps c))); keeps = tt; rests = λ _. tt }
