-- `margins::Leg::of` meets its contract. Assumes nothing.
use Rattle.margins.proofs.Numbering.{leg_there, there_moving}
use Rattle.margins.proofs.Leg.of.Goals as goal

pub frame-requires : goal.frame-requires
frame-requires c = search leg_there

pub invariant_of-result : goal.invariant_of-result
invariant_of-result c = search there_moving
