-- `overlap::divisor::halve` meets its contract: the trailing zeros of a number say how often it can be halved. Assumes nothing.
use Rattle.overlap.proofs.Halving.{halves}
use Rattle.overlap.proofs.divisor.halve.Goals as goal

pub returns : goal.returns
returns c = halves _ c.requires c.ranges.x
