use Rattle.std.proofs.Common.{rules}
use Rattle.console.proofs.state.Console.answer_line.Goals as goal

pub returns-in_err-map_err : goal.returns-in_err-map_err
returns-in_err-map_err c = λ k keeps.
    let read = c.read-call.ensures k.line keeps.line in
    let law = c.obey.ensures.law k.journal keeps.plan in
    search rules
