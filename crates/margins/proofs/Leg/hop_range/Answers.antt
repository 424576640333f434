-- `margins::Leg::hop_range` meets its contract. Assumes nothing.
use Rattle.std.proofs.Common.{◌+◌, ◌-◌, ◌≡◌, arith}
use Rattle.margins.proofs.RangeLaws.{offset_first, first_range, hop_range}
use Rattle.margins.proofs.Leg.hop_range.Goals as goal

pub returns-then-self-f : goal.returns-then-self-f
returns-then-self-f c = let whole = rw (← c.self.view_is) at c.whole_range.ensures.range in rw (← c.self.view_is) (search first_range)

pub overflow_sub-f : goal.overflow_sub-f
overflow_sub-f c = search offset_first

pub returns : goal.returns
returns c =
    let next : c.self.inside.at ≡ c.self.inside.at - 1 + 1 = omega arith in
    let end = rw (← c.self.view_is) at c.window_end.ensures.end in
    rw (← c.self.view_is) (search hop_range)
