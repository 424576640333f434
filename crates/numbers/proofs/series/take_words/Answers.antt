-- `numbers::series::take_words` meets its contract: the numbers passed are a row and lie in the buffer, and each that is read is one more. Assumes nothing.
use Rattle.std.proofs.Common.{rules}
use Rattle.numbers.proofs.Rows.{taking_start, taking_next, taking_end}
use Rattle.numbers.proofs.series.take_words.Goals as goal

pub loop-word-init : goal.loop-word-init
loop-word-init c = taking_start _ _ _

pub loop-word-preserved : goal.loop-word-preserved
loop-word-preserved c = taking_next c.loop-word.invariant (search rules) c.in_ok-number.ensures

pub returns : goal.returns
returns c = taking_end c.loop-word.invariant (search rules)
