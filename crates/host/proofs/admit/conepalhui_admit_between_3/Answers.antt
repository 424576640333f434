-- `host::admit::conepalhui_admit_between_3` meets its contract: a refusal of the plan reader is small. Assumes nothing.
use Rattle.host.proofs.Laws.{plan_fault_small}
use Rattle.host.proofs.admit.conepalhui_admit_between_3.Goals as goal

pub unadmitted_for-requires : goal.unadmitted_for-requires
unadmitted_for-requires c = plan_fault_small _ _ _ c.in-Err.ensures
