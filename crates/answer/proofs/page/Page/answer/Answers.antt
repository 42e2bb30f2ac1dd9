use Rattle.answer.proofs.Pages.{grows-grows}
use Rattle.answer.proofs.page.Page.answer.Goals as goal

pub returns-in-Ok-clause-grows : goal.returns-in-Ok-clause-grows
returns-in-Ok-clause-grows c = rw c.in-Ok.is (grows-grows c.number.ensures.grows c.text.ensures)

pub returns-in-Err-clause-grows : goal.returns-in-Err-clause-grows
returns-in-Err-clause-grows c = rw c.in-Err.is
    (grows-grows c.number.ensures.grows
    (grows-grows c.text-in-Err.ensures (grows-grows c.refusal.ensures.grows c.text-in-Err-2.ensures)))
