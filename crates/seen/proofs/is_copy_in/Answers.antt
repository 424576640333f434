-- `seen::is_copy_in` meets its contract: there is one way to split what was seen, and its parts tell. Assumes nothing.
use Rattle.seen.proofs.Laws.{split_copied, told_plans, some_left}
use Rattle.seen.proofs.is_copy_in.Goals as goal

pub returns-else-is_empty : goal.returns-else-is_empty
returns-else-is_empty c = split_copied c.in-Some.ensures (told_plans (c.is_plan.ensures.0 c.if-is_plan.true) (some_left _ c.if-is_empty.ensures) c.is_plan-else-is_empty.ensures)

pub returns-else-is_plan : goal.returns-else-is_plan
returns-else-is_plan c = split_copied c.in-Some.ensures (λ r. absurd (cc), λ x. c.is_plan.ensures.1 x.0)
