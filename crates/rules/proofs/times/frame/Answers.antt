-- `rules::times::frame` meets its contract: the leg, its stream and its link are records of the plan. Assumes nothing.
use Rattle.std.proofs.Common.{arith}
use Rattle.rules.proofs.Framing.{Reading, reading, frame_read}
use Rattle.rules.proofs.times.frame.Goals as goal

pub returns : goal.returns
returns c =
    let r : Reading = reading c.requires c.of-plan.ensures c.leg-leg.ensures.leg c.stream-stream.ensures.stream c.link-link.ensures.link in
    frame_read r (omega arith) (omega arith) c.start_time.ensures c.wire_time.ensures c.hold_time.ensures
