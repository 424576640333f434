-- `host::conepalhui_slice_full` meets its contract: what is said of the call of the closure is what is said of the table. Assumes nothing.
use Rattle.std.proofs.Common.{rules}
use Rattle.host.proofs.Steps.{of_its_table}
use Rattle.host.proofs.conepalhui_slice_full.Goals as goal

pub returns : goal.returns
returns c = of_its_table (λ t x. search rules) c.after_plan.ensures
