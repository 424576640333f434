-- `solver::rounds::rounds` meets its contract. Assumes nothing.
use Rattle.solver.proofs.Turns.{rests, goes_on}
use Rattle.solver.proofs.rounds.rounds.Goals as goal

pub returns-in_err-round : goal.returns-in_err-round
returns-in_err-round c = rw c.from_residual.ensures (rests c.args.network.now.in_range c.loop-r.invariant (rw c.size.ensures at c.round.ensures.stands_2) (rw c.size.ensures at c.in_err-round.ensures.last))

pub loop-r-preserved : goal.loop-r-preserved
loop-r-preserved c = goes_on c.args.network.now.in_range c.loop-r.invariant (rw c.size.ensures at c.round.ensures.stands_2) (rw c.size.ensures at c.in_ok-round.ensures.last) c.loop-r-test.true
