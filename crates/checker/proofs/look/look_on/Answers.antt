-- `checker::look::look_on` meets its contract: at each leg the places passed hold, and the budget used is their number. Assumes nothing.
use Rattle.checker.proofs.LookLaws.{turn_violates, turn_pauses, turn_goes_on}
use Rattle.checker.proofs.look.look_on.Goals as goal

pub returns-in-Some : goal.returns-in-Some
returns-in-Some c = (c.requires, turn_violates c.loop-a.invariant c.loop-a-test.true c.places_of-end.ensures c.min-step.ensures c.in-Some.ensures)

pub returns-then-limit-end : goal.returns-then-limit-end
returns-then-limit-end c = (c.requires, turn_pauses c.loop-a.invariant c.loop-a-test.true c.places_of-end.ensures c.min-step.ensures c.in_default.ensures c.if-limit-end.true)

pub loop-a-preserved : goal.loop-a-preserved
loop-a-preserved c = turn_goes_on c.loop-a.invariant c.loop-a-test.true c.places_of-end.ensures c.min-step.ensures c.in_default.ensures c.if-limit-end.false
