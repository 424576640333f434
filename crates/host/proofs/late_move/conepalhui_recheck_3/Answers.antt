-- `host::late_move::conepalhui_recheck_3` meets its contract: what is told of a table has small refusals. Assumes nothing.
use Rattle.std.proofs.Common.{rules}
use Rattle.host.proofs.Rechecking.{recheck_small}
use Rattle.host.proofs.late_move.conepalhui_recheck_3.Goals as goal

pub in_numbers-requires : goal.in_numbers-requires
in_numbers-requires c = recheck_small c.args.plan.now c.args.leg c.of_plan.result (search rules)
