use Rattle.legs.proofs.Totals.{table_legs}
use Rattle.legs.proofs.framing.frame_of.Goals as goal

pub build-requires-clause-timely : goal.build-requires-clause-timely
build-requires-clause-timely c = (table_legs c.args.table.now c.frame.result _ c.frame.ensures.value c.expand.ensures).0

pub build-requires-clause-light : goal.build-requires-clause-light
build-requires-clause-light c = (table_legs c.args.table.now c.frame.result _ c.frame.ensures.value c.expand.ensures).1
