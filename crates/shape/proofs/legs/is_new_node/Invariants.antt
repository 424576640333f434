-- `shape::legs::is_new_node` meets its contract: no leg passed ends at the node. Assumes nothing.
use Rattle.shape.specs.Routes.{NoEndAt}
use Rattle.shape.proofs.legs.is_new_node.Given as goal

abbrev pub invariant-loop-b : goal.invariant-loop-b
invariant-loop-b l = NoEndAt l.t l.first l.b l.node
