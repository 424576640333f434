-- `rules::times::wire_time` meets its contract. Assumes nothing.
use Rattle.rules.specs.Times.{wire_time}
use Rattle.rules.proofs.times.wire_time.Goals as goal

pub returns : goal.returns
unfolding wire_time
returns c = c.octets_last.ensures
