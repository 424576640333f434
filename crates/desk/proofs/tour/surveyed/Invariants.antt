-- `desk::tour::surveyed` is safe and ends: each step takes some of the budget. Assumes nothing.
use Rattle.checker.specs.Cursors.{CursorRight}
use Rattle.desk.proofs.tour.surveyed.Given as goal

abbrev pub invariant-loop-left : goal.invariant-loop-left
invariant-loop-left g l = CursorRight l.t l.c

abbrev pub decreases-loop-left : goal.decreases-loop-left
decreases-loop-left g l = l.left
