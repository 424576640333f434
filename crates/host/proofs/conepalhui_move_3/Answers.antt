-- `host::conepalhui_move_3` meets its contract: the words that were read are the table of the file. Assumes nothing.
use Rattle.host.proofs.Laws.{plan_fault_small}
use Rattle.host.proofs.Steps.{move_on}
use Rattle.host.proofs.conepalhui_move_3.Goals as goal

pub refused-requires : goal.refused-requires
refused-requires c = plan_fault_small _ _ _ c.in-Err.ensures

pub returns-in-Ok : goal.returns-in-Ok
returns-in-Ok c = move_on c.in-Ok.ensures c.move_from.ensures
