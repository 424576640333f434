-- `enlarge::copied` meets its contract: the words passed are copied. Assumes nothing.
use Rattle.enlarge.proofs.Laying.{copying_start, copying_next}
use Rattle.enlarge.proofs.copied.Goals as goal

pub loop-i-init : goal.loop-i-init
loop-i-init c = search copying_start

pub loop-i-preserved : goal.loop-i-preserved
loop-i-preserved c = search copying_next
