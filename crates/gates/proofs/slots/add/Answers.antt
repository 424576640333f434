-- `gates::slots::add` meets its contract: put behind the others, the slot is among them, and swaps change nothing of that. Assumes nothing.
use Rattle.std.proofs.Common.{arith}
use Rattle.gates.proofs.Storing.{added_last, added_swap}
use Rattle.gates.proofs.slots.add.Goals as goal

pub loop-i-init : goal.loop-i-init
loop-i-init c = added_last _ _ _ c.requires.n_in_bounds

pub loop-i-preserved : goal.loop-i-preserved
loop-i-preserved c = rw c.swap.ensures.after (added_swap _ _ _ c.loop-i-test.true (omega (arith, c.loop-i.invariant.size, c.requires.n_in_bounds)) c.loop-i.invariant)
