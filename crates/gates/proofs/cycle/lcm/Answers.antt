-- `gates::cycle::lcm` meets its contract. Assumes nothing.
use Rattle.overlap.proofs.Euclid.{gcd_positive}
use Rattle.gates.proofs.Cycles.{lcm_is}
use Rattle.gates.proofs.cycle.lcm.Goals as goal

pub nonzero_div-result : goal.nonzero_div-result
nonzero_div-result c = (gcd_positive _ _ _ c.requires.0 c.gcd.ensures).0

pub returns : goal.returns
returns c = lcm_is _ _ _ c.requires.0 c.requires.2 c.gcd.ensures
