use Rattle.std.proofs.Common.{length, ap, arith}
use Rattle.std.proofs.lemmas.Grind.{common_steps}
use Rattle.legs.proofs.Walks.{count_next}
use Rattle.legs.proofs.expansion.push_flow.Goals as goal

pub loop-packet-preserved : goal.loop-packet-preserved
loop-packet-preserved c = record {
  ends = grind (arith, common_steps, count_next);
  room = grind (arith, common_steps, count_next, ap length c.push_packet.ensures);
}
