-- `margins::Leg::margin` meets its contract. Assumes nothing.
use Rattle.rules.proofs.Placing.{asked_here}
use Rattle.margins.proofs.Numbering.{told_there}
use Rattle.margins.proofs.Leg.margin.Goals as goal

pub asked_margin-requires : goal.asked_margin-requires
asked_margin-requires c = search asked_here

pub returns : goal.returns
returns c = search told_there
