-- `repeats::Pair::first_entry` meets its contract. Assumes nothing.
use Rattle.repeats.proofs.Entering.{enters_there}
use Rattle.repeats.proofs.Pair.first_entry.Goals as goal

pub returns : goal.returns
returns c = search enters_there
