-- `shape::plan::Plan::judge` meets its contract: a table whose shape is clear guarantees what the layers above use. Assumes nothing.
use Rattle.shape.proofs.Placed.{well_formed_guarantees}
use Rattle.shape.proofs.plan.Plan.judge.Goals as goal

pub of-requires : goal.of-requires
of-requires c = well_formed_guarantees _ c.in_ok-judged_shape.ensures
