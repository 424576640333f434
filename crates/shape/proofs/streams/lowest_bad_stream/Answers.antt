-- `shape::streams::lowest_bad_stream` meets its contract: the streams passed are right, and their legs are counted. Assumes nothing.
use Rattle.std.proofs.Common.{inl}
use Rattle.shape.proofs.StreamLaws.{streams_begin, stream_wrong, stream_passes}
use Rattle.shape.proofs.streams.lowest_bad_stream.Goals as goal

pub loop-i-init : goal.loop-i-init
loop-i-init c = search streams_begin

pub returns-then-not-fits : goal.returns-then-not-fits
returns-then-not-fits c = inl (search stream_wrong)

pub loop-i-preserved : goal.loop-i-preserved
loop-i-preserved c = search stream_passes
