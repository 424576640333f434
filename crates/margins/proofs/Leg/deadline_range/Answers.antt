-- `margins::Leg::deadline_range` meets its contract. Assumes nothing.
use Rattle.margins.proofs.RangeLaws.{not_last_range}
use Rattle.margins.proofs.Leg.deadline_range.Goals as goal

pub returns-then-self-f : goal.returns-then-self-f
returns-then-self-f c = let whole = rw (← c.self.view_is) at c.whole_range.ensures.range in rw (← c.self.view_is) (search not_last_range)
