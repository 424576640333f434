-- `rules::place::asked_at` meets its contract. Assumes nothing.
use Rattle.std.proofs.Common.{sym, ap, arith}
use Rattle.rules.specs.Places.{asked_at}
use Rattle.rules.proofs.Asking.{past_own}
use Rattle.rules.proofs.place.asked_at.Goals as goal

pub returns-in-0 : goal.returns-in-0
unfolding asked_at
returns-in-0 c = sym (ap asked_at c.in-0.is)

pub returns-in-1 : goal.returns-in-1
unfolding asked_at
returns-in-1 c = sym (ap asked_at c.in-1.is)

pub returns-in-2 : goal.returns-in-2
unfolding asked_at
returns-in-2 c = sym (ap asked_at c.in-2.is)

pub returns-in_default : goal.returns-in_default
returns-in_default c = past_own _ (omega arith)
