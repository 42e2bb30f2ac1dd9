use Rattle.std.proofs.Common.{sym, ◌∙◌, arith}
use Rattle.line.proofs.Splits.{size-split_at, size_next}
use Rattle.line.proofs.read.read_line.Goals as goal

pub read_call-requires : goal.read_call-requires
read_call-requires c =
    omega (arith, size_next (sym c.new-fields.ensures ∙ c.in_ok-letter.ensures.steps), size-split_at 32 c.args.line.now)
