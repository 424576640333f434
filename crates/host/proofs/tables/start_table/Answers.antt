-- `host::tables::start_table` meets its contract: a granted start has a well-formed table, so its places are few. Assumes nothing.
use Rattle.std.proofs.Common.{arith}
use Rattle.host.proofs.Steps.{GoodTable, started_shape, few_places}
use Rattle.host.proofs.tables.start_table.Goals.{In-Ok}
use Rattle.host.proofs.tables.start_table.Goals as goal

abbrev good-table : In-Ok → GoodTable
good-table c = record { table = _; shape = started_shape c.in-Ok.is c.start.ensures }

pub overflow_cast-result : goal.overflow_cast-result
overflow_cast-result c =
    let good : GoodTable = good-table (goal.at.overflow_cast-result c).In-Ok in
    omega (arith, few_places c.place_count.ensures (omega (arith, good.shape.sized.limits.legs)))
