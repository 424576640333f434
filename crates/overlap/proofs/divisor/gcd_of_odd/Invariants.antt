-- `overlap::divisor::gcd_of_odd` meets its contract: the two numbers stay odd and keep the divisor, and their sum falls. Assumes nothing.
use Rattle.std.proofs.Common.{◌+◌}
use Rattle.overlap.proofs.Halving.{Narrowed}
use Rattle.overlap.proofs.divisor.gcd_of_odd.Given as goal

abbrev pub invariant-loop-x : goal.invariant-loop-x
invariant-loop-x l = Narrowed l.a l.b l.x l.y

abbrev pub decreases-loop-x : goal.decreases-loop-x
decreases-loop-x l = l.x + l.y
