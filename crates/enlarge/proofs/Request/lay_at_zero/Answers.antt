-- `enlarge::Request::lay_at_zero` meets its contract: the new legs come last. Assumes nothing.
use Rattle.enlarge.proofs.Front.{new_legs_room, grown_laid}
use Rattle.enlarge.proofs.Request.lay_at_zero.Goals as goal

pub lay_legs_at_zero-requires : goal.lay_legs_at_zero-requires
lay_legs_at_zero-requires c = search new_legs_room

pub returns : goal.returns
returns c = search grown_laid
