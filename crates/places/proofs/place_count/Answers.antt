-- `places::place_count` meets its contract. Assumes nothing.
use Rattle.std.proofs.Common.{arith}
use Rattle.places.proofs.Ranks.{count_of_legs}
use Rattle.places.proofs.place_count.Goals as goal

pub returns : goal.returns
returns c = omega (arith, count_of_legs c.args.legs)
