-- `gates::pairs::write_pairs` meets its contract: the pairs up to the present instant lie in the words. Assumes nothing.
use Rattle.std.proofs.Common.{◌-◌}
use Rattle.gates.specs.Holding.{Right}
use Rattle.gates.specs.Steps.{AnySlot}
use Rattle.gates.proofs.Growing.{Writing}
use Rattle.gates.proofs.pairs.write_pairs.Given as goal

abbrev pub invariant-loop-x : goal.invariant-loop-x
invariant-loop-x l = Writing (Right (AnySlot l.slots)) l.cycle l.out l.x l.n

abbrev pub decreases-loop-x : goal.decreases-loop-x
decreases-loop-x l = l.cycle - l.x
