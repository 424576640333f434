-- `enlarge::Request::lay_legs_at_zero` meets its contract: the legs passed are laid at offset 0. Assumes nothing.
use Rattle.enlarge.proofs.LegTurns.{zero_start, zero_room, zero_next, zero_end}
use Rattle.enlarge.proofs.Request.lay_legs_at_zero.Goals as goal

pub loop-link-init : goal.loop-link-init
loop-link-init c = search zero_start

pub copied-next-requires : goal.copied-next-requires
copied-next-requires c = search zero_room

pub loop-link-preserved : goal.loop-link-preserved
loop-link-preserved c = search zero_next

pub returns : goal.returns
returns c = search zero_end
