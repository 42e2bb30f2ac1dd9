use Rattle.std.proofs.Common.{arith}
use Rattle.std.proofs.lemmas.Nat.{ones-le, zero_from_ones}
use Rattle.plan.proofs.channels.ChannelMap.count.Goals as goal

pub returns-clause-least : goal.returns-clause-least
returns-clause-least c = let map = c.args.self.now in grind (arith, map.some, zero_from_ones map.bits)

pub returns-clause-most : goal.returns-clause-most
returns-clause-most c = let map = c.args.self.now in ones-le 15 map.bits (omega (arith, map.known))
