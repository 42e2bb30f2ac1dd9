use Rattle.answer.proofs.Pages.{grows-grows}
use Rattle.answer.proofs.page.Page.named.Goals as goal

pub returns-clause-grows : goal.returns-clause-grows
returns-clause-grows c = grows-grows c.text.ensures c.number.ensures.grows
