-- `host::tables::move_from` meets its contract: a refusal of the cursor reader is small. Assumes nothing.
use Rattle.host.proofs.Laws.{cursor_file_small}
use Rattle.host.proofs.tables.move_from.Goals as goal

pub refused-requires : goal.refused-requires
refused-requires c = cursor_file_small _ _ _ c.in-Err.ensures
