-- `shape::doubles::is_new` meets its contract: along the chain of the link's bucket every link passed has other ends. Assumes nothing.
use Rattle.shape.proofs.DoubleLaws.{ChainTurn}
use Rattle.shape.proofs.doubles.is_new.Given as goal

abbrev pub invariant-loop-c : goal.invariant-loop-c
invariant-loop-c l = ChainTurn l.t l.earlier l.i l.start l.links l.l l.c

abbrev pub decreases-loop-c : goal.decreases-loop-c
decreases-loop-c l = l.c
