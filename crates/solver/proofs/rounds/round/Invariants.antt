-- `solver::rounds::round` meets its contract. Assumes nothing.
use Rattle.network.specs.Constraints.{numbers_of}
use Rattle.solver.specs.Steps.{Stands, Last}
use Rattle.solver.proofs.rounds.round.Given as goal

abbrev pub invariant-loop-k : goal.invariant-loop-k
invariant-loop-k l =
    Stands l.network.events l.network.constraints.now l.base l.k l.lowered.times l.lowered.ticks l.lowered.by × Last l.last l.network.events l.base (numbers_of l.lowered.ticks)
