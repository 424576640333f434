-- `seen::known` meets its contract: there is one front, and what comes after it tells. Assumes nothing.
use Rattle.seen.proofs.Fronts.{rest_known}
use Rattle.seen.proofs.known.Goals as goal

pub returns : goal.returns
returns c = rest_known _ c.in-Some.ensures c.known_in.ensures
