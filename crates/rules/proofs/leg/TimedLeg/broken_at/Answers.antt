-- `rules::leg::TimedLeg::broken_at` meets its contract: the place is judged as what is asked there. Assumes nothing.
use Rattle.rules.proofs.Placing.{asked_here, kept_at, broken_at}
use Rattle.rules.proofs.leg.TimedLeg.broken_at.Goals as goal

pub keeps-requires : goal.keeps-requires
keeps-requires c = search asked_here

pub returns-then-keeps : goal.returns-then-keeps
returns-then-keeps c = kept_at _ _ _ c.asked_at-asked.ensures c.keeps.ensures c.if-keeps.true

pub returns : goal.returns
returns c = broken_at _ _ _ c.asked_at-asked.ensures c.keeps.ensures c.if-keeps.false c.from.ensures
