-- `shape::legs::lowest_bad_leg` meets its contract: stream by stream, the legs before the next are right. Assumes nothing.
use Rattle.shape.proofs.LegTurns.{LegTurn}
use Rattle.shape.proofs.legs.lowest_bad_leg.Given as goal

abbrev pub invariant-loop-s : goal.invariant-loop-s
invariant-loop-s l = LegTurn l.t l.next l.s
