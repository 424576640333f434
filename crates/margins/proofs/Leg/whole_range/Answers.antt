-- `margins::Leg::whole_range` meets its contract. Assumes nothing.
use Rattle.margins.proofs.RangeLaws.{whole_range}
use Rattle.margins.proofs.Leg.whole_range.Goals as goal

pub returns-clause-range : goal.returns-clause-range
returns-clause-range c = search whole_range
