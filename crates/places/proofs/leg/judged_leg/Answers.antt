-- `places::leg::judged_leg` meets its contract: the places from p on and below q hold. Assumes nothing.
use Rattle.places.proofs.LegLaws.{whole_is_leg}
use Rattle.places.proofs.leg.judged_leg.Goals as goal

pub next_place-s-requires-clause-n_le_max_legs : goal.next_place-s-requires-clause-n_le_max_legs
next_place-s-requires-clause-n_le_max_legs c =
    let inside = c.of-leg.result.inside in
    let at = c.of-leg.ensures.at in
    whole_is_leg c.whole_from-n.ensures inside.table inside.leg c.requires.p_le_limit.0 (rw at c.requires.p_le_limit.1)
