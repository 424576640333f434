-- `overlap::gcd` meets its contract: the divisor of the odd parts, doubled as often as both numbers were halved. Assumes nothing.
use Rattle.std.proofs.Common.{rules}
use Rattle.overlap.proofs.Halving.{fewer}
use Rattle.overlap.proofs.gcd.Goals as goal

pub returns : goal.returns
returns c =
    rw c.min.ensures (fewer c.halve-x.ensures c.halve-y.ensures c.gcd_of_odd-odd.ensures (search rules) (search rules) c.ranges.a c.ranges.b)
