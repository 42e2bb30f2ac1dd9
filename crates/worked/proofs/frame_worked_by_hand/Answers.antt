use Rattle.worked.proofs.Numbers.{worked}
use Rattle.worked.proofs.frame_worked_by_hand.Goals as goal

pub returns : goal.returns
returns c = worked
