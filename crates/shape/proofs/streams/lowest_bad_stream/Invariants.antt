-- `shape::streams::lowest_bad_stream` meets its contract: the streams passed are right, and their legs are counted. Assumes nothing.
use Rattle.shape.proofs.StreamLaws.{StreamTurn}
use Rattle.shape.proofs.streams.lowest_bad_stream.Given as goal

abbrev pub invariant-loop-i : goal.invariant-loop-i
invariant-loop-i l = StreamTurn l.t l.streams l.count l.legs l.next l.i
