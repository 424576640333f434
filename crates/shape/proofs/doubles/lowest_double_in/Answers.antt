-- `shape::doubles::lowest_double_in` meets its contract: the links below i are new, and are kept in their buckets. Assumes nothing.
use Rattle.shape.proofs.DoubleLaws.{turn_begins, turn_in_range, turn_chain, turn_passes}
use Rattle.shape.proofs.doubles.lowest_double_in.Goals as goal

pub loop-i-init : goal.loop-i-init
loop-i-init c = search turn_begins

pub bucket-h-requires : goal.bucket-h-requires
bucket-h-requires c = search turn_in_range

pub is_new-requires : goal.is_new-requires
is_new-requires c = search turn_chain

pub loop-i-preserved : goal.loop-i-preserved
loop-i-preserved c = search turn_passes
