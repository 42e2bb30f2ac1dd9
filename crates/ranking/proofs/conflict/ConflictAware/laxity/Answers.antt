use Rattle.std.proofs.Common.{◌≡◌, ℤ, sym, subst, w32, to_z, of_z, rules}
use Rattle.frame.specs.Frames.{frame_spec}
use Rattle.ranking.specs.Bounds.{LaxityBounds}
use Rattle.ranking.specs.Laxity.{conflict_aware}
use Rattle.ranking.proofs.Slacks.{laxity_of_hop, laxity_bounds}
use Rattle.ranking.proofs.conflict.ConflictAware.laxity.Goals as goal

pub returns : goal.returns
returns c =
    let frame = c.args.moment.frame.now in
    let f = frame_spec frame in
    let s = c.args.moment.slot in
    let p = c.args.moment.progress.now in
    let i = c.args.leg in
    let value : to_z w32 (of_z w32 c.least_slack.result) ≡ conflict_aware f s p i =
    search (rules, laxity_of_hop f s p i c.in-Some.hop c.least_slack.result c.in-Some.ensures c.least_slack.ensures) in
    record {
      value = value;
      bounds = subst (λ (z : ℤ). LaxityBounds f s p z) (sym value) (laxity_bounds f s p i frame.short frame.timely frame.light);
    }
