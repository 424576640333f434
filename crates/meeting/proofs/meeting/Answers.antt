-- `meeting::meeting` meets its contract: two legs on one link, told by their slots. Assumes nothing.
use Rattle.std.proofs.Common.{arith}
use Rattle.meeting.specs.Meets.{CanMeet}
use Rattle.meeting.proofs.Legs.{slot_is, meets_none, meets_told}
use Rattle.meeting.proofs.meeting.Goals as goal

pub returns-then-a-b : goal.returns-then-a-b
returns-then-a-b c =
    let told = c.in_ok-plan.ensures in
    let legs = rw told.1 at c.legs-legs.ensures.count in
    let can : CanMeet c.args.t.now c.args.leg c.args.other = record {
      shape = told.0;
      leg_there = omega (arith, legs, c.if-legs-leg.false);
      other_there = omega (arith, legs, c.if-legs-other.false);
    } in
    let first = rw (c.of-a.ensures.plan, c.of-a.ensures.at, told.1) at c.of-a.result.frame_of in
    let second = rw (c.of-b.ensures.plan, c.of-b.ensures.at, told.1) at c.of-b.result.frame_of in
    meets_none can first second c.if-a-b.true

pub returns : goal.returns
returns c =
    let told = c.in_ok-plan.ensures in
    let legs = rw told.1 at c.legs-legs.ensures.count in
    let can : CanMeet c.args.t.now c.args.leg c.args.other = record {
      shape = told.0;
      leg_there = omega (arith, legs, c.if-legs-leg.false);
      other_there = omega (arith, legs, c.if-legs-other.false);
    } in
    let first = rw (c.of-a.ensures.plan, c.of-a.ensures.at, told.1) at c.of-a.result.frame_of in
    let second = rw (c.of-b.ensures.plan, c.of-b.ensures.at, told.1) at c.of-b.result.frame_of in
    let inside = rw (c.of-a.ensures.plan, c.of-a.ensures.at, told.1) at c.of-a.result.inside in
    let inside' = rw (c.of-b.ensures.plan, c.of-b.ensures.at, told.1) at c.of-b.result.inside in
    meets_told can first second c.if-a-b.false (slot_is inside first c.slot-first.ensures) (slot_is inside' second c.slot-second.ensures) _ c.first_meeting.ensures
