-- `shape::doubles::lowest_double_in` meets its contract: the links below i are new, and are kept in their buckets. Assumes nothing.
use Rattle.shape.proofs.DoubleLaws.{Turn}
use Rattle.shape.proofs.doubles.lowest_double_in.Given as goal

abbrev pub invariant-loop-i : goal.invariant-loop-i
invariant-loop-i l = Turn l.t l.last l.earlier l.i
