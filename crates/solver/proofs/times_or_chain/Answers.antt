-- `solver::times_or_chain` meets its contract. Assumes nothing.
use Rattle.solver.proofs.Ends.{begun, set_off}
use Rattle.solver.proofs.times_or_chain.Goals as goal

pub rounds-requires : goal.rounds-requires
rounds-requires c = begun c.args.network.now.events c.args.network.now.constraints.now c.args.network.now.in_range

pub chain_from-requires-clause-walking : goal.chain_from-requires-clause-walking
chain_from-requires-clause-walking c = set_off c.args.network.now.events c.args.network.now.constraints.now c.args.network.now.in_range c.in-Some.v c.rounds.new.lowered.times c.rounds.new.lowered.ticks c.rounds.new.lowered.by c.in-Some.ensures
