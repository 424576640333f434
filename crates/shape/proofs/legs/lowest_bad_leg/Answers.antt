-- `shape::legs::lowest_bad_leg` meets its contract: stream by stream, the legs before the next are right. Assumes nothing.
use Rattle.shape.proofs.LegTurns.{legs_begin, its_end, stream_has_wrong, stream_is_right, legs_end}
use Rattle.shape.proofs.legs.lowest_bad_leg.Goals as goal

pub loop-s-init : goal.loop-s-init
loop-s-init c = search legs_begin

pub lowest_in_stream-requires-clause-end_value : goal.lowest_in_stream-requires-clause-end_value
lowest_in_stream-requires-clause-end_value c = search its_end

pub returns-in-Some : goal.returns-in-Some
returns-in-Some c = stream_has_wrong c.loop-s.invariant c.requires c.loop-s-test.true c.stream_part-streams.ensures c.stream_in.ensures c.in-Some.ensures

pub loop-s-preserved : goal.loop-s-preserved
loop-s-preserved c = stream_is_right c.loop-s.invariant c.requires c.loop-s-test.true c.stream_part-streams.ensures c.stream_in.ensures c.in_default.ensures

pub returns : goal.returns
returns c = search legs_end
