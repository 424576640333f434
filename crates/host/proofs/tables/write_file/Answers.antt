-- `host::tables::write_file` meets its contract: the file of a table of the right size is small. Assumes nothing.
use Rattle.std.proofs.Common.{arith}
use Rattle.host.proofs.Steps.{file_small}
use Rattle.host.proofs.tables.write_file.Goals as goal

pub overflow_cast-result : goal.overflow_cast-result
overflow_cast-result c =
    omega (arith, file_small _ _ c.requires c.in-Ok.is c.write_plan.ensures)
