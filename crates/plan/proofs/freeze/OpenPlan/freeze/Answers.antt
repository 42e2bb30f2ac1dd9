use Rattle.std.proofs.Common.{◌∙◌}
use Rattle.table.specs.Tables.{flows_in}
use Rattle.legs.proofs.Frames.{frame_of_map}
use Rattle.plan.proofs.freeze.OpenPlan.freeze.Goals as goal

pub invariant_of-result : goal.invariant_of-result
invariant_of-result c =
    let p = c.args.self in
    let is = c.frame_of-phase.ensures ∙ frame_of_map (flows_in p.table) _ _ c.count.ensures.value in
    record { sound = p.sound; suited = ∣ is ∣₁ }
