-- `admission::Candidate::old_condition` meets its contract: an old leg asks that the new leg on its link never meets it. Assumes nothing.
use Rattle.std.proofs.Common.{refl}
use Rattle.rules.proofs.Judging.{slot_of_frame}
use Rattle.admission.proofs.Asking.{leg_in_lem, sends_met, leg_starts, old_asks}
use Rattle.admission.proofs.Candidate.old_condition.Goals as goal

pub frame-leg-requires : goal.frame-leg-requires
frame-leg-requires c = let below = rw (← c.self.view_is) at c.requires in search leg_in_lem

pub hold_on-hold-requires : goal.hold_on-hold-requires
hold_on-hold-requires c = rw (← c.self.view_is) (sends_met c.self.invariant c.in-Some.ensures)

pub pair_condition-requires-clause-starts : goal.pair_condition-requires-clause-starts
pair_condition-requires-clause-starts c = let after = rw (← c.self.view_is) at c.after_of-after.ensures in search leg_starts

pub returns : goal.returns
returns c =
    let below = rw (← c.self.view_is) at c.requires in
    let after = rw (← c.self.view_is) at c.after_of-after.ensures in
    let hold = rw (← c.self.view_is) at c.hold_on-hold.ensures in
    let slot = slot_of_frame c.frame-leg.ensures c.slot-other.ensures in
    rw (← c.self.view_is) (old_asks c.self.invariant below c.frame-leg.ensures c.in-Some.ensures after refl hold slot c.pair_condition.ensures)
