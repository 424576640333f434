-- `table::parts::make_move` meets its contract. Assumes nothing.
use Rattle.table.proofs.Moved.{moved_is}
use Rattle.table.proofs.parts.make_move.Goals as goal

pub returns : goal.returns
returns c = search moved_is
