use Rattle.std.proofs.Common.{rules, ◌∙◌}
use Rattle.std.proofs.lemmas.Iterator.{YieldsList-from_slice}
use Rattle.std.proofs.lemmas.Iterator.Consumers.{YieldsList-from_enumerate}
use Rattle.std.proofs.lemmas.Iterator.Search.{any_from_yields_List}
use borrow.Author.Tests.{tests}
use Rattle.frame.specs.Frames.{frame_spec}
use Rattle.frame.specs.Legs.{leg_spec}
use Rattle.frame.specs.Reads.{leg_late}
use Rattle.frame.specs.States.{done_of}
use Rattle.frame.proofs.Reading.{frame-some}
use Rattle.frame.proofs.moment.Moment.is_overdue.Goals as goal

pub returns : goal.returns
returns c =
    let p = c.args.self.progress.now in
    let legs = c.legs in
    any_from_yields_List (λ x. leg_late (leg_spec x.1) c.args.self.slot (done_of p x.0)) _ _ _ c.any.ensures.ran
    (YieldsList-from_enumerate (YieldsList-from_slice legs.result.now cc) cc) (λ x b q k. search (rules, tests))
    ∙ frame-some (frame_spec c.args.self.frame.now) legs.result.now legs.ensures.seen (λ i l. leg_late l c.args.self.slot (done_of p i))
