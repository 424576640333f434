-- `host::place_margin::conepalhui_margin_3` meets its contract: what is told of a table has small refusals. Assumes nothing.
use Rattle.std.proofs.Common.{rules}
use Rattle.host.proofs.Telling.{margin_small, margin_given}
use Rattle.host.proofs.place_margin.conepalhui_margin_3.Goals as goal

pub in_numbers-requires : goal.in_numbers-requires
in_numbers-requires c = margin_small c.args.plan.now c.args.leg c.args.place c.of_plan-told.result (search rules)

pub returns : goal.returns
returns c = margin_given (search rules) (search rules) c.in_numbers.ensures
