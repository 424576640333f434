-- `numbers::series::look_through` meets its contract: as many numbers as were read stand up to here. Assumes nothing.
use Rattle.numbers.proofs.Rows.{numbers_none, numbers_more}
use Rattle.numbers.proofs.series.look_through.Goals as goal

pub loop-init : goal.loop-init
loop-init c = numbers_none _ _

pub loop-preserved : goal.loop-preserved
loop-preserved c = numbers_more c.loop.invariant c.in_ok-at.ensures
