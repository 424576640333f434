-- `decimal::worth` meets its contract: what was passed is worth `value`, and with the digits after it that is what all of them are worth.
-- Assumes nothing.
use Rattle.decimal.proofs.Laws.{turn_large, turn_more, turn_ends}
use Rattle.decimal.proofs.worth.Goals as goal

pub returns-then-value : goal.returns-then-value
returns-then-value c = (search, search turn_large)

pub loop-byte-preserved : goal.loop-byte-preserved
loop-byte-preserved c = search turn_more

pub returns : goal.returns
returns c = (search, search turn_ends, search)
