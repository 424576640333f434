-- `overlap::divisor::part` meets its contract: the lesser by `min`, and the difference either way round. Assumes nothing.
use Rattle.overlap.proofs.Halving.{parted_by}
use Rattle.overlap.proofs.divisor.part.Goals as goal

pub returns : goal.returns
returns c = search parted_by
