-- `rules::times::hold_time` meets its contract. Assumes nothing.
use Rattle.rules.specs.Times.{hold_time}
use Rattle.rules.proofs.times.hold_time.Goals as goal

pub returns : goal.returns
unfolding hold_time
returns c = c.octets_last.ensures
