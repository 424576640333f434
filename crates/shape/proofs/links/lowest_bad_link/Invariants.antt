-- `shape::links::lowest_bad_link` meets its contract: every link passed is in range. Assumes nothing.
use Rattle.basics.specs.Lowest.{All}
use Rattle.shape.specs.Shape.{LinkRight}
use Rattle.shape.proofs.links.lowest_bad_link.Given as goal

abbrev pub invariant-loop-i : goal.invariant-loop-i
invariant-loop-i l = All (LinkRight l.t) l.i
