-- `places::leg::judged_leg` meets its contract: the places from p on and below q hold. Assumes nothing.
use Rattle.std.proofs.Common.{◌-◌}
use Rattle.places.proofs.LegLaws.{Passed}
use Rattle.places.proofs.leg.judged_leg.Given as goal

abbrev pub invariant-loop-q : goal.invariant-loop-q
invariant-loop-q l = Passed l.chains.plan.now l.a l.p l.q

abbrev pub decreases-loop-q : goal.decreases-loop-q
decreases-loop-q l = l.limit - l.q
