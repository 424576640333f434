-- `wishes::number::worth_of` meets its contract: what was passed is worth `value`, and a value that is too large for one more digit is not gone on with. Assumes nothing.
use Rattle.wishes.proofs.Digits.{passing_far, passing_more, passing_ends}
use Rattle.wishes.proofs.number.worth_of.Goals as goal

pub returns-then-value-gt-ENOUGH : goal.returns-then-value-gt-ENOUGH
returns-then-value-gt-ENOUGH c = search passing_far

pub loop-byte-preserved : goal.loop-byte-preserved
loop-byte-preserved c = search passing_more

pub returns : goal.returns
returns c = search passing_ends
