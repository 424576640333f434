-- `rules::judge::pair_told` meets its contract: with a leg of its link it is asked that the two slots never meet. Assumes nothing.
use Rattle.rules.proofs.Pairs.{slots_tell_pair}
use Rattle.rules.proofs.judge.pair_told.Goals as goal

pub returns : goal.returns
returns c = search slots_tell_pair
