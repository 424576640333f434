-- `wishes::number::worth_of` meets its contract: what was passed is worth `value`, and a value that is too large for one more digit is not gone on with. Assumes nothing.
use Rattle.wishes.proofs.Digits.{Passing}
use Rattle.wishes.proofs.number.worth_of.Given as goal

abbrev pub invariant-loop-byte : goal.invariant-loop-byte
invariant-loop-byte l = Passing l.digits l.value l.byte-index
