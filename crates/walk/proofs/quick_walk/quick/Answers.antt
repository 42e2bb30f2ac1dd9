use Rattle.std.proofs.Common.{◌++◌, length, drop, ap, ◌∙◌, subst}
use Rattle.frame.specs.Frames.{FrameSpec, frame_spec}
use Rattle.walk.specs.Outcomes.{Keys, quick_outcome, answered}
use Rattle.walk.specs.Walking.{Shows}
use Rattle.walk.specs.Walks.{Stand, stand}
use Rattle.walk.proofs.Granted.{grid-written, granted_runs}
use Rattle.walk.proofs.quick_walk.quick.Goals as goal

pub returns-in-Grid : goal.returns-in-Grid
returns-in-Grid g c =
    let f : FrameSpec = frame_spec c.args.frame.now in
    let key : Keys = g.R.Ranking.key c.args.ranking.now in
    let same = ap (λ (w : Stand). w.frame) c.new-walk.ensures in
    let answer = c.run-answer.ensures.answer ∙ ap (λ x. answered (quick_outcome x key)) same in
    let shown = subst (λ x. Shows (quick_outcome x key) (stand c.run-answer.new.self).trail) same c.run-answer.ensures.shown in
    granted_runs f key _ _ _ _ c.run-answer.result c.in_ok-check_memory.ensures answer
    (grid-written (quick_outcome f key) c.in-Grid.field-0 _ _ _
    (c.in-Grid.ensures.answer ∙ ap (λ x. answered (quick_outcome x key)) same) shown
    (c.copy_front.ensures ∙ ap (λ t. t ++ drop (length t) c.args.grid.now) c.from.ensures))
