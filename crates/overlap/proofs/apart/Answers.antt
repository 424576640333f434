-- `overlap::apart` meets its contract, by the divisor law. Assumes nothing.
use Rattle.std.proofs.Common.{rules}
use Rattle.overlap.proofs.Law.{divisor_positive, divisor_word, first_too_long, second_too_long, both_fit}
use Rattle.overlap.proofs.apart.Goals as goal

pub remainder-r-requires-clause-g_nonzero : goal.remainder-r-requires-clause-g_nonzero
remainder-r-requires-clause-g_nonzero c = search divisor_positive

pub remainder-r-requires-clause-g_le_max_word : goal.remainder-r-requires-clause-g_le_max_word
remainder-r-requires-clause-g_le_max_word c = search divisor_word

pub returns-then-a-r : goal.returns-then-a-r
returns-then-a-r c = search (rules, both_fit, second_too_long)

pub returns-else-a-r : goal.returns-else-a-r
returns-else-a-r c = search (rules, first_too_long)
