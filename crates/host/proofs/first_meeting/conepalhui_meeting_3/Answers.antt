-- `host::first_meeting::conepalhui_meeting_3` meets its contract: what is told of a table has small refusals. Assumes nothing.
use Rattle.std.proofs.Common.{rules}
use Rattle.host.proofs.Telling.{meeting_small}
use Rattle.host.proofs.first_meeting.conepalhui_meeting_3.Goals as goal

pub in_numbers-requires : goal.in_numbers-requires
in_numbers-requires c = meeting_small c.args.plan.now c.args.leg c.args.other c.of_plan.result (search rules)
