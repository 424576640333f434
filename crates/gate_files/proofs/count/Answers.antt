-- `gate_files::count` meets its contract: the numbers passed are a row, and each that is read is one more, up to the end of the bytes. Assumes nothing.
use Rattle.gate_files.proofs.Counting.{counting_start, counting_next, counting_less}
use Rattle.gate_files.proofs.count.Goals as goal

pub loop-at-init : goal.loop-at-init
loop-at-init c = counting_start _

pub loop-at-smaller : goal.loop-at-smaller
loop-at-smaller c = counting_less c.loop-at.invariant c.loop-at-test.true c.in_ok-at.ensures

pub loop-at-preserved : goal.loop-at-preserved
loop-at-preserved c = counting_next c.loop-at.invariant c.in_ok-at.ensures
