-- `decimal::worth` meets its contract: what was passed is worth `value`, and with the digits after it that is what all of them are worth.
-- Assumes nothing.
use Rattle.decimal.proofs.Laws.{Turn}
use Rattle.decimal.proofs.worth.Given as goal

abbrev pub invariant-loop-byte : goal.invariant-loop-byte
invariant-loop-byte l = Turn l.text l.value l.byte-index
