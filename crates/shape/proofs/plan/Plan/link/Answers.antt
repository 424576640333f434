-- `shape::plan::Plan::link` meets its contract: the record of the part is the table's. Assumes nothing.
use Rattle.std.proofs.Common.{◌∙◌}
use Rattle.table.proofs.PartLaws.{link_of_part}
use Rattle.shape.proofs.plan.Plan.link.Goals as goal

pub returns-clause-link : goal.returns-clause-link
returns-clause-link c = c.link_in.ensures ∙ rw (c.link_part.ensures, c.self.view_is) (link_of_part c.args.self.now _)
