-- `numbers::series::take_words` meets its contract: the numbers passed are a row and lie in the buffer, and each that is read is one more. Assumes nothing.
use Rattle.numbers.proofs.Rows.{Taking}
use Rattle.numbers.proofs.series.take_words.Given as goal

abbrev pub invariant-loop-word : goal.invariant-loop-word
invariant-loop-word l = Taking l.bytes l.from l.initial.out l.out l.at l.word-index
