-- `solver::walk::walk_back` meets its contract: the walk ends, since each step leaves an event that was not left before. Assumes nothing.
use Rattle.std.proofs.Common.{◌-◌}
use Rattle.solver.specs.Steps.{Walking}
use Rattle.solver.proofs.walk.walk_back.Given as goal

abbrev pub invariant-loop-seen : goal.invariant-loop-seen
invariant-loop-seen l = Walking l.network.events l.network.constraints.now l.by l.k l.x l.path l.seen

abbrev pub decreases-loop-seen : goal.decreases-loop-seen
decreases-loop-seen l = l.network.events - l.k
