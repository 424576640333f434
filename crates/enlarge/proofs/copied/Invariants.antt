-- `enlarge::copied` meets its contract: the words passed are copied. Assumes nothing.
use Rattle.enlarge.proofs.Laying.{Copying}
use Rattle.enlarge.proofs.copied.Given as goal

abbrev pub invariant-loop-i : goal.invariant-loop-i
invariant-loop-i l = Copying l.from l.initial.out l.at l.out l.i
