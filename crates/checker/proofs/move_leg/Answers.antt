-- `checker::move_leg` meets its contract. Assumes nothing.
use Rattle.checker.proofs.LookLaws.{pulled_to_lesser}
use Rattle.checker.proofs.move_leg.Goals as goal

pub returns : goal.returns
returns c =
    let m = c.in_default.ensures in
    record { allowed = m; table = search; revision = search; lesser = pulled_to_lesser m.cursor.stands m.can.below c.pulled_back.ensures }
