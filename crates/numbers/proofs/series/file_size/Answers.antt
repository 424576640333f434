-- `numbers::series::file_size` meets its contract: the sum so far is the size of the words passed. Assumes nothing.
use Rattle.std.proofs.Common.{arith}
use Rattle.numbers.proofs.Rows.{sizing_start, sizing_few, sizing_next}
use Rattle.numbers.proofs.series.file_size.Goals as goal

pub loop-word-init : goal.loop-word-init
loop-word-init c = sizing_start _

pub overflow_add-size : goal.overflow_add-size
overflow_add-size c =
    omega (arith, sizing_few c.loop-word.invariant {n = c.number_size-size.result} (search) c.number_size-size.ensures)

pub loop-word-preserved : goal.loop-word-preserved
loop-word-preserved c = search sizing_next
