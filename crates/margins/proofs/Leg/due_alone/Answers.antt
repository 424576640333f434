-- `margins::Leg::due_alone` meets its contract. Assumes nothing.
use Rattle.margins.proofs.RangeLaws.{kept_range, lost_range}
use Rattle.margins.proofs.Leg.due_alone.Goals as goal

pub returns-then-f-ready : goal.returns-then-f-ready
returns-then-f-ready c = let only = rw (← c.self.view_is) at c.requires in rw (← c.self.view_is) (search lost_range)

pub returns : goal.returns
returns c =
    let only = rw (← c.self.view_is) at c.requires in
    let whole = rw (← c.self.view_is) at c.whole_range.ensures.range in
    rw (← c.self.view_is) (search kept_range)
