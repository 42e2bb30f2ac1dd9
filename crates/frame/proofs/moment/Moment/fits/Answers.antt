use Rattle.std.proofs.Common.{rules, leb, length, sym, ap, ◌∙◌, arith}
use Rattle.std.proofs.lemmas.Bool.{ne_eqb}
use Rattle.std.proofs.lemmas.Iterator.{YieldsList-from_slice, YieldsList-from_zip}
use Rattle.std.proofs.lemmas.Iterator.Search.{all_from_yields_List}
use borrow.Author.Tests.{tests}
use Rattle.frame.specs.Frames.{frame_spec}
use Rattle.frame.specs.States.{fits}
use Rattle.frame.proofs.Fits.{fits_not, fits-zip}
use Rattle.frame.proofs.moment.Moment.fits.Goals as goal

pub returns-then-legs-self : goal.returns-then-legs-self
returns-then-legs-self c =
    let legs = c.legs-legs in
    let p = c.args.self.progress.now in
    all_from_yields_List (λ x. leb x.1 x.0.count) c.all.new.self _ _ c.all.ensures.ran
    (YieldsList-from_zip (YieldsList-from_slice legs.result.now cc) (YieldsList-from_slice p cc)) (λ x b q k. search (rules, tests))
    ∙ fits-zip legs.result.now p c.if-legs-self.true ∙ ap (λ ls. fits ls p) legs.ensures.seen

pub returns-else-legs-self : goal.returns-else-legs-self
returns-else-legs-self c =
    let legs = c.legs-legs in
    ne_eqb (length legs.result.now) (length c.args.self.progress.now) c.if-legs-self.false
    ∙ sym (fits_not (frame_spec c.args.self.frame.now).legs c.args.self.progress.now
    (λ h. c.if-legs-self.false (omega (arith, h.each, legs.ensures.len))))
