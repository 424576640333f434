-- `numbers::series::put_file` meets its contract: the bytes of the words passed lie over the buffer. Assumes nothing.
use Rattle.numbers.proofs.Rows.{Putting}
use Rattle.numbers.proofs.series.put_file.Given as goal

abbrev pub invariant-loop-word : goal.invariant-loop-word
invariant-loop-word l = Putting l.words l.initial.out l.out l.next l.word-index
