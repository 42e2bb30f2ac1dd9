use Rattle.std.proofs.Common.{rules, ◌∙◌}
use Rattle.std.proofs.lemmas.Iterator.{YieldsList-from_slice}
use Rattle.std.proofs.lemmas.Iterator.Consumers.{YieldsList-from_enumerate}
use Rattle.std.proofs.lemmas.Iterator.Search.{all_from_yields_List}
use borrow.Author.Tests.{tests}
use Rattle.frame.specs.Frames.{frame_spec}
use Rattle.frame.specs.Legs.{leg_spec}
use Rattle.frame.specs.Reads.{leg_complete}
use Rattle.frame.specs.States.{done_of}
use Rattle.frame.proofs.Reading.{frame-all}
use Rattle.frame.proofs.moment.Moment.is_complete.Goals as goal

pub returns : goal.returns
returns c =
    let p = c.args.self.progress.now in
    let legs = c.legs in
    all_from_yields_List (λ x. leg_complete (leg_spec x.1) (done_of p x.0)) _ _ _ c.all.ensures.ran
    (YieldsList-from_enumerate (YieldsList-from_slice legs.result.now cc) cc) (λ x b q k. search (rules, tests))
    ∙ frame-all (frame_spec c.args.self.frame.now) legs.result.now legs.ensures.seen (λ i l. leg_complete l (done_of p i))
