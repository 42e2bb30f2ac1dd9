use mathlib.Core.Logic.{∥∥₁_elim}
use Rattle.std.proofs.Common.{ap, ◌∙◌}
use Rattle.legs.specs.Expand.{frame_of}
use Rattle.legs.proofs.Frames.{frame-set}
use Rattle.plan.specs.Journal.{standing}
use Rattle.plan.proofs.frozen.FrozenPlan.frame.Goals as goal

pub returns-clause-law : goal.returns-clause-law
returns-clause-law c =
    let p = c.args.self.now in
    λ j f. ∥∥₁_elim p.suited (frame-set _ _)
    (λ is. is ∙ ap (λ fs. frame_of fs p.map.bits) f.inforce ∙ ap (frame_of (standing j).flows) f.allowed)
