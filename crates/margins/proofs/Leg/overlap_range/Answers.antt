-- `margins::Leg::overlap_range` meets its contract. Assumes nothing.
use Rattle.margins.proofs.RangeLaws.{other_link_range, apart_range}
use Rattle.margins.proofs.Leg.overlap_range.Goals as goal

pub returns-then-f-other : goal.returns-then-f-other
returns-then-f-other c =
    let below = rw (← c.self.view_is) at c.requires in
    let whole = rw (← c.self.view_is) at c.whole_range.ensures.range in
    rw (← c.self.view_is) (search other_link_range)

pub returns : goal.returns
returns c =
    let below = rw (← c.self.view_is) at c.requires in
    let end = rw (← c.self.view_is) at c.window_end.ensures.end in
    let says = rw c.slot.ensures at c.pair_condition-q.ensures in
    rw (← c.self.view_is) (search apart_range)
