-- `survey::place_after` meets its contract. Assumes nothing.
use Rattle.std.proofs.Common.{◌+◌, ◌≤◌, arith}
use Rattle.rules.specs.Places.{places_of}
use Rattle.survey.proofs.After.{past_leg}
use Rattle.survey.proofs.place_after.Goals as goal

pub returns : goal.returns
returns c =
    let last : places_of c.args.at.leg ≤ c.args.at.place + 1 = omega arith in
    past_leg c.requires.cursor_right c.requires.place last
