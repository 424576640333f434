-- `margins::Leg::late_from` meets its contract. Assumes nothing.
use Rattle.margins.proofs.RangeLaws.{offset_before_ready, late_from}
use Rattle.margins.proofs.Leg.late_from.Goals as goal

pub overflow_sub-needs : goal.overflow_sub-needs
overflow_sub-needs c = search offset_before_ready

pub returns : goal.returns
returns c = rw (← c.self.view_is) (search late_from)
