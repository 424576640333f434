-- `margins::Leg::due` meets its contract. Assumes nothing.
use Rattle.margins.proofs.RangeLaws.{due_range}
use Rattle.margins.proofs.Leg.due.Goals as goal

pub returns : goal.returns
returns c = search due_range
