-- `overlap::divisor::gcd_of_odd` meets its contract: the two numbers stay odd and keep the divisor, and their sum falls. Assumes nothing.
use Rattle.overlap.proofs.Halving.{narrowed_next, narrowed_end}
use Rattle.overlap.proofs.divisor.gcd_of_odd.Goals as goal

pub loop-x-preserved : goal.loop-x-preserved
loop-x-preserved c = search narrowed_next

pub returns : goal.returns
returns c = search narrowed_end
