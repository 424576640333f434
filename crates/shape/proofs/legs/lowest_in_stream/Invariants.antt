-- `shape::legs::lowest_in_stream` meets its contract: the legs of the stream that were passed are right. Assumes nothing.
use Rattle.basics.specs.Lowest.{AllFrom}
use Rattle.shape.specs.Legs.{LegRight}
use Rattle.shape.proofs.legs.lowest_in_stream.Given as goal

abbrev pub invariant-loop-a : goal.invariant-loop-a
invariant-loop-a l = AllFrom (LegRight l.t) l.first l.a
