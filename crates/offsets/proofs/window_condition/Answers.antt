-- `offsets::window_condition` meets its contract. Assumes nothing.
use Rattle.offsets.proofs.Saying.{window_says}
use Rattle.offsets.proofs.window_condition.Goals as goal

pub returns : goal.returns
returns c = window_says c.requires
