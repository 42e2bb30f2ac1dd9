use Rattle.std.proofs.Common.{◌≡◌, ◌≤◌, [], ◌∷◌, ◌++◌, ap, ◌∙◌, arith, rules}
use Rattle.theory.proofs.Progress.{fits_sum}
use Rattle.walk.specs.Orders.{entries_by}
use Rattle.walk.specs.Outcomes.{Keys}
use Rattle.walk.specs.Walks.{Stand, stand}
use Rattle.walk.proofs.Entering.{entries_at, entries_ready, entries_room, sends_first}
use Rattle.walk.proofs.walking.Walk.enter.Given as given
use Rattle.walk.proofs.walking.Walk.enter.Goals as goal
use Rattle.walk.proofs.walking.Walk.enter.Goals.{After-from}

-- the entries that fill the slot are those of its state
listed : (g : given.Over) (c : After-from g) →
    let w = stand c.args.self.now in
    c.from.result.now ≡ entries_by w.frame (g.R.Ranking.key c.args.ranking.now) c.args.slot w.progress
listed g c =
    entries_at (g.R.Ranking.key c.args.ranking.now) c.args.slot (stand c.args.self.now) c.moment.result _ c.moment.ensures
    (c.from.ensures ∙ c.rank_legs.ensures.ranked)

pub overflow_cast-mark : goal.overflow_cast-mark
overflow_cast-mark g c =
    let w : Stand = stand c.args.self.now in
    let h = fits_sum w.frame.legs w.progress c.requires.fits in
    let few : c.len-mark.result ≤ 2048 = omega (arith, c.args.self.now.frame.now.light) in
    search rules

pub fill-requires-clause-ready : goal.fill-requires-clause-ready
fill-requires-clause-ready g c =
    let w : Stand = stand c.args.self.now in
    let key : Keys = g.R.Ranking.key c.args.ranking.now in
    let e = listed g (goal.at.fill-requires-clause-ready g c).After-from in
    entries_ready w.frame key c.args.slot w.progress _ e c.requires.fits

pub fill-requires-clause-room : goal.fill-requires-clause-room
fill-requires-clause-room g c =
    let w : Stand = stand c.args.self.now in
    let key : Keys = g.R.Ranking.key c.args.ranking.now in
    let e = listed g (goal.at.fill-requires-clause-room g c).After-from in
    let room = entries_room w.frame key c.args.slot w.progress _ e c.requires.fits in
    omega arith

pub returns-clause-entered : goal.returns-clause-entered
returns-clause-entered g c =
    let w : Stand = stand c.args.self.now in
    let key : Keys = g.R.Ranking.key c.args.ranking.now in
    let e = listed g (goal.at.returns-clause-entered g c).After-from in
    sends_first key c.args.slot w _ _ _ e (c.push.ensures.pushed ∙ ap (λ n. w.marks ++ n ∷ []) c.len-mark.ensures) c.fill.ensures
