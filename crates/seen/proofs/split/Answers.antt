-- `seen::split` meets its contract: the number in front says where the first plan ends. Assumes nothing.
use mathlib.Core.Path.{◌∙◌}
use Rattle.seen.proofs.Laws.{after, number_none, number_read, none_kept, split_told}
use Rattle.seen.proofs.split.Goals as goal

pub returns-in_err-size : goal.returns-in_err-size
returns-in_err-size c = rw c.from_residual.ensures (none_kept _ _ (number_none _ c.read_number.ensures c.in_err-size.ensures.value).1)

pub returns : goal.returns
returns c = split_told _ (number_read _ c.read_number.ensures c.in_ok-size.ensures.value) (c.in_ok-get.ensures.lookup.0.2 ∙ after _ _ c.in_ok-get.ensures.lookup.0.0) c.split_at_checked.ensures.cases
