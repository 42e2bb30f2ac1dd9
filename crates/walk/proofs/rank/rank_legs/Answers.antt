use Rattle.std.proofs.Common.{ℕ, length, ℤ, sym, ap, ◌∙◌, arith, rules, w32, SFits}
use Rattle.std.proofs.lemmas.Int.{to_z-of_z}
use Rattle.frame.specs.Frames.{frame_spec}
use Rattle.frame.specs.States.{released}
use Rattle.walk.specs.declared.ranked.Ranked.{Ranked}
use Rattle.walk.specs.declared.stack.Stack.{Stack}
use Rattle.walk.specs.Stacks.{entries, room_of}
use Rattle.walk.proofs.Sorting.{length_listed, listed_with, listed_without, sorted_listed}
use Rattle.walk.proofs.rank.rank_legs.Goals as goal
use Rattle.walk.proofs.rank.rank_legs.Goals.{then-is_released, else-is_released}

pub push-requires : goal.push-requires
push-requires g c =
    let f = frame_spec c.args.moment.frame.now in
    let key : ℕ → ℤ = g.R.Ranking.key c.args.ranking.now f c.args.moment.slot c.args.moment.progress.now in
    let few = length_listed key (released f c.args.moment.slot c.args.moment.progress.now) c.loop-leg.leg _ c.loop-leg.invariant.ranked in
    omega (arith, c.loop-leg.invariant.whole)

pub loop-leg-preserved : goal.loop-leg-preserved
loop-leg-preserved g c =
    let f = frame_spec c.args.moment.frame.now in
    let key : ℕ → ℤ = g.R.Ranking.key c.args.ranking.now f c.args.moment.slot c.args.moment.progress.now in
    elim c.if-is_released.branch [
      | then-is_released w ↦
          let fits : SFits w32 w.rank-key.result = search rules in
          record {
            ranked =
                ap (λ (r : Stack Ranked). entries r) w.ranked-is
                ∙ listed_with key (released f c.args.moment.slot c.args.moment.progress.now) c.loop-leg.leg _ _ _
                c.loop-leg.invariant.ranked (sym w.if-is_released.ensures) (to_z-of_z w32 _ fits ∙ w.rank-key.ensures)
                w.push.ensures.pushed;
            whole = ap (λ (r : Stack Ranked). room_of r) w.ranked-is ∙ w.push.ensures.whole ∙ c.loop-leg.invariant.whole;
          }
      | else-is_released w ↦ record {
        ranked =
            ap (λ (r : Stack Ranked). entries r) w.ranked-is
            ∙ listed_without key (released f c.args.moment.slot c.args.moment.progress.now) c.loop-leg.leg _
            c.loop-leg.invariant.ranked (sym w.if-is_released.ensures);
        whole = ap (λ (r : Stack Ranked). room_of r) w.ranked-is ∙ c.loop-leg.invariant.whole;
      }
    ]

pub returns-clause-ranked : goal.returns-clause-ranked
returns-clause-ranked g c =
    let f = frame_spec c.args.moment.frame.now in
    let key : ℕ → ℤ = g.R.Ranking.key c.args.ranking.now f c.args.moment.slot c.args.moment.progress.now in
    sorted_listed key (released f c.args.moment.slot c.args.moment.progress.now) (length f.legs) c.loop-leg.leg _ _
    c.loop-leg.invariant.ranked (omega arith) c.sort.ensures.permutation c.sort.ensures.sorted
