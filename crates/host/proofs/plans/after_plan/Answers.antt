-- `host::plans::after_plan` meets its contract: a refusal of the plan reader is small. Assumes nothing.
use Rattle.host.proofs.Laws.{plan_fault_small}
use Rattle.host.proofs.plans.after_plan.Goals as goal

pub refused-requires : goal.refused-requires
refused-requires g c = plan_fault_small _ _ _ c.in-Err.ensures
