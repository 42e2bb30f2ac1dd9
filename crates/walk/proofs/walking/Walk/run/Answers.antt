use Rattle.std.proofs.Common.{length, ◌≤◌, sym, refl, ap, ◌∙◌, subst, arith}
use Rattle.walk.specs.declared.answer.QuickAnswer.TheVariants.{Grid}
use Rattle.frame.specs.Legs.{hop_total}
use Rattle.walk.specs.Walking.{Shows}
use Rattle.walk.specs.Outcomes.{Keys, quick_outcome, answered}
use Rattle.walk.specs.Walks.{Stand, stand}
use Rattle.walk.proofs.States.{before_first, few_done, all_done, in_frame, before_next}
use Rattle.walk.proofs.walking.Walk.run.Goals as goal

pub loop-ranked-init : goal.loop-ranked-init
loop-ranked-init g c = record {
  before = before_first (g.R.Ranking.key c.args.ranking.now) (stand c.args.self.now) c.requires;
  room = c.new-ranked.ensures.whole;
  frame = refl;
}

pub returns-then-is_complete : goal.returns-then-is_complete
returns-then-is_complete g c =
    let w : Stand = stand c.loop-ranked.self in
    let key : Keys = g.R.Ranking.key c.args.ranking.now in
    let same = c.loop-ranked.invariant.frame in
    let e = ap (λ f. quick_outcome f key) (sym same)
    ∙ all_done key c.loop-ranked.slot w c.loop-ranked.invariant.before c.moment-here.result c.moment-here.ensures
    c.if-is_complete.ensures in
    record {
      answer = ap Grid c.len-count.ensures ∙ sym (ap answered e);
      shown = subst (λ o. Shows o w.trail) (sym e) refl;
      few = subst (λ f. length w.trail ≤ hop_total f.legs) same (few_done key c.loop-ranked.slot w c.loop-ranked.invariant.before);
    }

pub returns-then-is_overdue-clause-few : goal.returns-then-is_overdue-clause-few
returns-then-is_overdue-clause-few g c =
    let w : Stand = stand c.loop-ranked.self in
    let few = few_done (g.R.Ranking.key c.args.ranking.now) c.loop-ranked.slot w c.loop-ranked.invariant.before in
    subst (λ f. length w.trail ≤ hop_total f.legs) c.loop-ranked.invariant.frame few

pub loop-ranked-smaller : goal.loop-ranked-smaller
loop-ranked-smaller g c =
    let w : Stand = stand c.loop-ranked.self in
    let key : Keys = g.R.Ranking.key c.args.ranking.now in
    let early = in_frame key c.loop-ranked.slot w c.loop-ranked.invariant.before c.moment-here.result c.moment-here.ensures
    c.if-is_complete.ensures c.if-is_overdue.ensures c.loop-ranked.self.frame.now.timely in
    let same = ap (λ (v : Stand). v.frame.slots) c.enter.ensures.entered in
    omega arith

pub loop-ranked-preserved : goal.loop-ranked-preserved
loop-ranked-preserved g c =
    let w : Stand = stand c.loop-ranked.self in
    let key : Keys = g.R.Ranking.key c.args.ranking.now in
    record {
      before = before_next key c.loop-ranked.slot w c.loop-ranked.invariant.before c.moment-here.result c.moment-here.ensures
          c.if-is_complete.ensures c.if-is_overdue.ensures c.loop-ranked.self.frame.now.timely _ c.enter.ensures.entered;
      room = c.enter.ensures.whole ∙ c.loop-ranked.invariant.room;
      frame = ap (λ (v : Stand). v.frame) c.enter.ensures.entered ∙ c.loop-ranked.invariant.frame;
    }
