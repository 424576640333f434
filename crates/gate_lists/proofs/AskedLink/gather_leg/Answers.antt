-- `gate_lists::AskedLink::gather_leg` meets its contract. Assumes nothing.
use Rattle.std.proofs.Common.{◌<◌, length, refl, ◌∙◌, arith}
use Rattle.gates.specs.Steps.{Kept}
use Rattle.gate_lists.proofs.Gathering.{leg_in_lem, is_slot, is_kept, gathered_other, gathered_one}
use Rattle.gate_lists.proofs.AskedLink.gather_leg.Goals as goal

pub link-requires : goal.link-requires
link-requires c = leg_in_lem c.self.invariant refl (rw (← c.self.view_is) at c.requires.leg)

pub returns-then-link-self : goal.returns-then-link-self
returns-then-link-self c =
    rw (← c.self.view_is) (gathered_other _ _ _ _ _ (rw (← c.self.view_is) at c.requires.gathered) _ c.link.ensures c.if-link-self.true)

pub frame-frame-requires : goal.frame-frame-requires
frame-frame-requires c = leg_in_lem c.self.invariant refl (rw (← c.self.view_is) at c.requires.leg)

pub add-requires-clause-kept : goal.add-requires-clause-kept
add-requires-clause-kept c = rw c.slot.ensures (is_kept c.self.invariant refl (rw (← c.self.view_is) at c.requires.leg) c.frame-frame.ensures)

pub returns : goal.returns
returns c =
    let may = c.self.invariant in
    let leg = rw (← c.self.view_is) at c.requires.leg in
    let below = rw (← c.self.view_is) at c.requires.gathered in
    let slot = c.slot.ensures ∙ is_slot c.frame-frame.ensures in
    let kept : Kept c.slot.result = rw c.slot.ensures (is_kept may refl leg c.frame-frame.ensures) in
    let room : c.args.n < length c.args.slots.now = omega (arith, leg, c.requires.slots_len, below.few, may.shape.sized.limits) in
    rw (← c.self.view_is) (gathered_one _ _ _ _ _ below _ _ _ c.link.ensures c.if-link-self.false slot kept room c.add.ensures)
