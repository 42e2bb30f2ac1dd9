use Rattle.std.proofs.Common.{sym, ◌∙◌, arith}
use Rattle.answer.specs.Bytes.{answer_bytes}
use Rattle.answer.proofs.Put.{fits}
use Rattle.answer.proofs.write.write_answer.Goals as goal

pub returns-then-out-ge-LONGEST-clause-wrote : goal.returns-then-out-ge-LONGEST-clause-wrote
returns-then-out-ge-LONGEST-clause-wrote c =
    c.print.ensures.wrote (omega arith) ∙ sym (fits (answer_bytes c.args.line c.args.answer) c.args.out.now (omega arith)).1

pub returns-then-size-out-clause-wrote : goal.returns-then-size-out-clause-wrote
returns-then-size-out-clause-wrote c =
    c.print-then-size-out.ensures.wrote (omega arith) ∙ sym (fits (answer_bytes c.args.line c.args.answer) c.args.out.now (omega arith)).1
