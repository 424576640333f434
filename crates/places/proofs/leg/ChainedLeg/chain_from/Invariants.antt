-- `places::leg::ChainedLeg::chain_from` meets its contract: no leg of the link is passed over from n on. Assumes nothing.
use Rattle.std.proofs.Common.{◌-◌}
use Rattle.table.specs.Records.{leg_at}
use Rattle.places.proofs.ChainLaws.{Seeking}
use Rattle.places.proofs.leg.ChainedLeg.chain_from.Given as goal

abbrev pub invariant-loop-b : goal.invariant-loop-b
invariant-loop-b l = Seeking l.self.leg.plan.now l.self.next.now (leg_at l.self.leg.plan.now l.self.leg.at).link l.n l.b

abbrev pub decreases-loop-b : goal.decreases-loop-b
decreases-loop-b l = l.n - l.b
