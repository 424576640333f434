-- `enlarge::Request::lay_from` meets its contract: the new legs come last. Assumes nothing.
use Rattle.enlarge.proofs.Front.{new_legs_room, grown_laid}
use Rattle.enlarge.proofs.Request.lay_from.Goals as goal

pub lay_legs_from-requires-clause-legs_room : goal.lay_legs_from-requires-clause-legs_room
lay_legs_from-requires-clause-legs_room c = search new_legs_room

pub returns : goal.returns
returns c = search grown_laid
