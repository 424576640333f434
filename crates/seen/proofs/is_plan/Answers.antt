-- `seen::is_plan` meets its contract: the file is looked through. Assumes nothing.
use Rattle.seen.proofs.Laws.{plan_told}
use Rattle.seen.proofs.is_plan.Goals as goal

pub returns : goal.returns
returns c = rw c.is_ok.ensures.value (plan_told c.args.layout c.args.bytes.now c.plan_size.result c.plan_size.ensures)
