-- `seen::edition_of` meets its contract: one edition stands in front, and then the form of what comes after it tells; or none does, and
-- then it is told whether all of it is a copy. Assumes nothing.
use Rattle.seen.proofs.Fronts.{named_nothing}
use Rattle.seen.proofs.edition_of.Goals as goal

pub returns-in_err-split : goal.returns-in_err-split
returns-in_err-split c = rw c.from_residual.ensures (named_nothing _ c.in-Some.ensures c.in_err-split.ensures)
