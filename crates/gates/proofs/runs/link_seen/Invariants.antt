-- `gates::runs::link_seen` meets its contract: the slots before the present one were asked. Assumes nothing.
use Rattle.std.proofs.Common.{length}
use Rattle.gates.specs.Steps.{Looked}
use Rattle.gates.proofs.runs.link_seen.Given as goal

abbrev pub invariant-loop-s : goal.invariant-loop-s
invariant-loop-s l = Looked l.slots (length l.slots) l.x l.limit l.s-index l.look
