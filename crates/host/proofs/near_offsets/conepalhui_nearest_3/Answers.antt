-- `host::near_offsets::conepalhui_nearest_3` meets its contract: what is told of a table has small refusals. Assumes nothing.
use Rattle.std.proofs.Common.{rules}
use Rattle.host.proofs.Telling.{nearest_small}
use Rattle.host.proofs.near_offsets.conepalhui_nearest_3.Goals as goal

pub in_numbers-requires : goal.in_numbers-requires
in_numbers-requires c = nearest_small c.args.plan.now c.args.leg c.args.place c.of_plan.result (search rules)
