-- `seen::only_plan` meets its contract: there is one front and one way to split what comes after it, and nothing is left after the first plan, or something is. Assumes nothing.
use Rattle.std.proofs.Common.{rules}
use Rattle.std.proofs.lemmas.List.{nil_from_length}
use Rattle.seen.proofs.Laws.{some_left}
use Rattle.seen.proofs.Fronts.{none_only, only_other, only_first}
use Rattle.seen.proofs.only_plan.Goals as goal

pub returns-in_err-plan : goal.returns-in_err-plan
returns-in_err-plan c = rw c.from_residual-in_err-plan.ensures (none_only _ c.in_ok-rest_under.ensures c.in_err-plan.ensures)

pub returns-then-not-is_empty : goal.returns-then-not-is_empty
returns-then-not-is_empty c = only_other c.in_ok-rest_under.ensures c.in_ok-plan.ensures (some_left _ (search rules))

pub returns : goal.returns
returns c = only_first c.in_ok-rest_under.ensures c.in_ok-plan.ensures (nil_from_length _ (search rules))
