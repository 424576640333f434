-- `numbers::series::file_size` meets its contract: the sum so far is the size of the words passed. Assumes nothing.
use Rattle.numbers.proofs.Rows.{Sizing}
use Rattle.numbers.proofs.series.file_size.Given as goal

abbrev pub invariant-loop-word : goal.invariant-loop-word
invariant-loop-word l = Sizing l.words l.size l.word-index
