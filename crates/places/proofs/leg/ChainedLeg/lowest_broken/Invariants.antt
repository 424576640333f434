-- `places::leg::ChainedLeg::lowest_broken` meets its contract: what was told of the leg and each leg along the chain. Assumes nothing.
use Rattle.std.proofs.Common.{◌-◌}
use Rattle.places.proofs.PairLaws.{Turn}
use Rattle.places.proofs.leg.ChainedLeg.lowest_broken.Given as goal

abbrev pub invariant-loop-b : goal.invariant-loop-b
invariant-loop-b l = Turn l.self.leg.plan.now l.self.next.now l.self.leg.at l.n l.m l.mine l.known l.b

abbrev pub decreases-loop-b : goal.decreases-loop-b
decreases-loop-b l = l.m - l.b
