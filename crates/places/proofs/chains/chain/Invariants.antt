-- `places::chains::chain` meets its contract: each leg is put in front of the chain of its link. Assumes nothing.
use Rattle.places.proofs.ChainLaws.{Turn}
use Rattle.places.proofs.chains.chain.Given as goal

abbrev pub invariant-loop-b : goal.invariant-loop-b
invariant-loop-b l = Turn l.plan l.initial.first l.initial.next l.first l.next l.b
