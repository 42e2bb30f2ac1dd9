use Rattle.std.proofs.Common.{refl, decimal, rules}
use Rattle.answer.specs.Page.{Grows}
use Rattle.answer.proofs.Digits.{one_digit, last_digit}
use Rattle.answer.proofs.Pages.{grows-grows, grows_as, grows_little}
use Rattle.answer.proofs.page.Page.+number.Goals as goal
use Rattle.answer.proofs.page.Page.+number.Goals.{then-n-ge10, else-n-ge10}

pub returns : goal.returns
returns t c =
    let n = c.args.n in
    let grows : Grows c.args.self.now c.text.new.self (decimal n) = elim c.if-n-ge10.branch [
      | then-n-ge10 w ↦ grows_as (last_digit n _ w.if-n-ge10.true (search rules) refl)
          (grows-grows w.number.ensures.grows (rw w.self-is at c.text.ensures))
      | else-n-ge10 w ↦ grows_as (one_digit n _ w.if-n-ge10.false refl) (rw w.self-is at c.text.ensures)
    ] in
    record { grows = grows; few = grows_little n (search rules) grows }
