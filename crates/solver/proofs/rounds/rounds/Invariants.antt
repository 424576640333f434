-- `solver::rounds::rounds` meets its contract. Assumes nothing.
use Rattle.solver.proofs.Turns.{Turning}
use Rattle.solver.proofs.rounds.rounds.Given as goal

abbrev pub invariant-loop-r : goal.invariant-loop-r
invariant-loop-r l = Turning l.network.events l.network.constraints.now l.last l.r l.lowered.times l.lowered.ticks l.lowered.by
