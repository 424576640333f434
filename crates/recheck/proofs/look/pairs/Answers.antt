-- `recheck::look::pairs` meets its contract: of the places with other legs only those with leg m are listed. Assumes nothing.
use Rattle.recheck.proofs.Stepping.{with_moved}
use Rattle.recheck.proofs.Looking.{to_pair, pair_told}
use Rattle.recheck.proofs.look.pairs.Goals as goal

pub look-requires-clause-p_value : goal.look-requires-clause-p_value
look-requires-clause-p_value c = with_moved _ _ _ _ c.pair_place.ensures

pub look-requires-clause-looked_to : goal.look-requires-clause-looked_to
look-requires-clause-looked_to c = to_pair c.requires.later.above c.pair_place.ensures c.requires.looked_to

pub returns : goal.returns
returns c = pair_told _ _ _ c.look.result c.requires.later.above c.pair_place.ensures c.look.ensures
