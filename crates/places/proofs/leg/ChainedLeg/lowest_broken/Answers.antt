-- `places::leg::ChainedLeg::lowest_broken` meets its contract: what was told of the leg and each leg along the chain. Assumes nothing.
use Rattle.places.proofs.PairLaws.{turn_starts, turn_on}
use Rattle.places.proofs.leg.ChainedLeg.lowest_broken.Goals as goal

pub loop-b-init : goal.loop-b-init
loop-b-init c = search turn_starts

pub loop-b-preserved : goal.loop-b-preserved
loop-b-preserved c =
    let known = c.known_with-known.ensures in
    let words = c.words-t.ensures.words in
    let plan = c.of.ensures.plan in
    let leg = c.of.ensures.at in
    turn_on c.loop-b.invariant c.loop-b-test.true (rw (plan, leg) at c.sharer-other.ensures) (rw words at (c.if-not-pair_told.ensures.0 search)) known.0 known.1
