-- `solver::walk::chain_from` meets its contract: the part of the path with the chain is copied. Assumes nothing.
use Rattle.std.proofs.Common.{◌≡◌, ◌+◌, ◌-◌, arith}
use Rattle.solver.proofs.Ends.{given}
use Rattle.solver.proofs.walk.chain_from.Goals as goal

pub returns : goal.returns
returns c =
    let size : c.walk_back-start.result.start + c.walk_back-start.result.len - c.walk_back-start.result.start ≡ c.walk_back-start.result.len = omega arith in
    given c.walk_back-start.ensures c.args.chain.now c.copy_from_slice.new.self (omega (arith, c.walk_back-start.ensures.short, c.requires.events_in_bounds)) (rw size at c.copy_from_slice.ensures.after)
