-- `seen::is_copy` meets its contract: there is one front, and what comes after it tells. Assumes nothing.
use Rattle.seen.proofs.Fronts.{rest_copied}
use Rattle.seen.proofs.is_copy.Goals as goal

pub returns : goal.returns
returns c = rest_copied _ c.in-Some.ensures c.is_copy_in.ensures
