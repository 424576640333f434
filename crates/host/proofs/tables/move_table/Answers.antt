-- `host::tables::move_table` meets its contract: a granted move keeps the size. Assumes nothing.
use Rattle.host.proofs.Steps.{moved_sized}
use Rattle.host.proofs.tables.move_table.Goals as goal

pub write_both-requires-clause-sized : goal.write_both-requires-clause-sized
write_both-requires-clause-sized c = moved_sized _ _ _ _ c.in-Ok.is c.move_leg.ensures
