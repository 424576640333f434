-- `offsets::pair_condition` meets its contract, by the divisor law. Assumes nothing.
use Rattle.std.proofs.Common.{arith}
use Rattle.offsets.proofs.Saying.{divisor_some, divisor_word, offset_below, pair_says}
use Rattle.offsets.proofs.pair_condition.Goals as goal

pub nonzero_rem-result : goal.nonzero_rem-result
nonzero_rem-result c = divisor_some c.requires.starts c.requires.repeats c.requires.gcd

pub overflow_sub-result : goal.overflow_sub-result
overflow_sub-result c = offset_below c.requires.starts c.requires.repeats c.requires.gcd

pub overflow_add-result : goal.overflow_add-result
overflow_add-result c = omega (arith, c.requires.starts.after_to, divisor_word c.requires.starts c.requires.repeats c.requires.gcd)

pub nonzero_rem-result-2 : goal.nonzero_rem-result-2
nonzero_rem-result-2 c = divisor_some c.requires.starts c.requires.repeats c.requires.gcd

pub returns : goal.returns
returns c = pair_says c.requires.starts c.requires.repeats c.requires.gcd c.requires.hold_le_max_word
