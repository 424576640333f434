-- `margins::Leg::nearest` meets its contract. Assumes nothing.
use Rattle.rules.proofs.Placing.{asked_here}
use Rattle.margins.proofs.NearLaws.{nearest_told}
use Rattle.margins.proofs.Leg.nearest.Goals as goal

pub range-r-requires : goal.range-r-requires
range-r-requires c = search asked_here

pub returns : goal.returns
returns c = let range = rw (← c.self.view_is) at c.range-r.ensures in rw (← c.self.view_is) (search nearest_told)
