-- `margins::Leg::overlap_margin` meets its contract. Assumes nothing.
use Rattle.margins.proofs.Numbering.{divisor_some, divisor_word}
use Rattle.margins.proofs.Leg.overlap_margin.Goals as goal

pub remainder-requires-clause-g_nonzero : goal.remainder-requires-clause-g_nonzero
remainder-requires-clause-g_nonzero c = search divisor_some

pub remainder-requires-clause-g_le_max_word : goal.remainder-requires-clause-g_le_max_word
remainder-requires-clause-g_le_max_word c = search divisor_word
