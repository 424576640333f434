-- `shape::plan::Plan::stream` meets its contract: the record of the part is the table's. Assumes nothing.
use Rattle.std.proofs.Common.{◌∙◌}
use Rattle.table.proofs.PartLaws.{stream_of_part}
use Rattle.shape.proofs.plan.Plan.stream.Goals as goal

pub returns-clause-stream : goal.returns-clause-stream
returns-clause-stream c = c.stream_in.ensures ∙ rw (c.stream_part.ensures, c.self.view_is) (stream_of_part c.args.self.now _)
