-- `shape::plan::Plan::leg` meets its contract: the record of the part is the table's. Assumes nothing.
use Rattle.std.proofs.Common.{◌∙◌}
use Rattle.table.proofs.PartLaws.{leg_of_part}
use Rattle.shape.proofs.plan.Plan.leg.Goals as goal

pub returns-clause-leg : goal.returns-clause-leg
returns-clause-leg c = c.leg_in.ensures ∙ rw (c.leg_part.ensures, c.self.view_is) (leg_of_part c.args.self.now _)
