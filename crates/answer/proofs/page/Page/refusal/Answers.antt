use Rattle.std.proofs.Common.{rules}
use Rattle.answer.proofs.Pages.{grows-grows, refusal_little}
use Rattle.answer.proofs.page.Page.refusal.Goals as goal

pub returns-clause-grows : goal.returns-clause-grows
returns-clause-grows c = rw (← c.from.ensures, ← c.from-2.ensures, ← c.from-3.ensures, ← c.from-4.ensures)
    (grows-grows c.named.ensures.grows
    (grows-grows c.named-2.ensures.grows (grows-grows c.named-3.ensures.grows c.named-4.ensures.grows)))

pub returns-clause-few : goal.returns-clause-few
returns-clause-few c = refusal_little c.args.refusal (search rules) (search rules) (search rules) (search rules) (returns-clause-grows c)
