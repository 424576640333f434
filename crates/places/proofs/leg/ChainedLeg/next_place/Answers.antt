-- `places::leg::ChainedLeg::next_place` meets its contract: with the legs before the one that was found all holds. Assumes nothing.
use Rattle.places.proofs.LegLaws.{next_along}
use Rattle.places.proofs.leg.ChainedLeg.next_place.Goals as goal

pub returns : goal.returns
returns c = search next_along
