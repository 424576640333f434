-- `gates::runs::slot_seen` meets its contract: by the present repeat. Assumes nothing.
use Rattle.std.proofs.Common.{arith}
use Rattle.gates.proofs.Seeing.{holds_on}
use Rattle.gates.proofs.runs.slot_seen.Goals as goal

pub returns-then-r-s : goal.returns-then-r-s
returns-then-r-s c = holds_on _ _ (omega arith) (omega arith)
