-- `claims::is_chain` meets its contract. Assumes nothing.
use Rattle.claims.specs.Steps.{Linked}
use Rattle.claims.proofs.is_chain.Given as goal

abbrev pub invariant-loop-number : goal.invariant-loop-number
invariant-loop-number l = Linked l.network.events l.network.constraints.now l.numbers l.number-index l.at l.begin.from l.sum l.seen
