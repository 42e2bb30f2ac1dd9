use Rattle.std.proofs.Common.{◌∙◌}
use Rattle.plan.proofs.Following.{list_same}
use Rattle.plan.proofs.plan.Plan.listed.Goals as goal

pub returns : goal.returns
returns g c = λ j f. c.len.ensures.value ∙ list_same f
