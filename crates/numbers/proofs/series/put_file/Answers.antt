-- `numbers::series::put_file` meets its contract: the bytes of the words passed lie over the buffer. Assumes nothing.
use Rattle.numbers.proofs.Rows.{putting_start, putting_room, putting_next}
use Rattle.numbers.proofs.series.put_file.Goals as goal

pub loop-word-init : goal.loop-word-init
loop-word-init c = putting_start _ _

pub put_number-next-requires : goal.put_number-next-requires
put_number-next-requires c = search putting_room

pub loop-word-preserved : goal.loop-word-preserved
loop-word-preserved c = search putting_next
