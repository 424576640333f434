-- The lists of Plan A with leg 2 at 672, of a link without legs and of one that is held all the time: each pair is a stretch of instants that a slot holds in some repeat, or that none holds. Assumes nothing.
use Prim.Native.Nat.{ℕ, zero, suc, ◌≤◌, ◌<◌}
use mathlib.Core.Path.{◌≡◌, refl, sym, ◌∙◌}
use mathlib.Core.List.{[], ◌∷◌}
use mathlib.Core.Logic.{⊎_elim}
use native.Mathlib.Omega.{arith}
use Rattle.basics.proofs.Splits.{lt_or_ge}
use Rattle.overlap.specs.declared.Slot.{Slot}
use Rattle.rules.specs.Times.{slot_of}
use Rattle.gate_lists.specs.GateList.{SlotOn, CycleOf, RightMask, IsGateList, without_legs, with_legs}
use Rattle.gate_lists.specs.AtNumbers.{accepted_a, list_of_a, empty_link, full_link}
use Rattle.gate_lists.proofs.Stretches.{RightFrom, no_pairs, in_front, from_start}
use Rattle.gate_lists.proofs.TwoSlots.{Two, alone, first_holds, second_holds, none_holds, cycle_is, multiple}
use Rattle.gate_lists.proofs.ShortFrames.{slot, slot_is, link_is}
use Rattle.gate_lists.proofs.LikeA as like

slots_0 : Two (SlotOn accepted_a 0) (slot 0 100000) (slot 672 150000)
slots_0 = like.link_0 100000 150000 0 672

slots_1 : Two (SlotOn accepted_a 1) (slot 1176 100000) (slot 1176 100000)
slots_1 = like.link_1 100000 150000 0 672

pub cycle_0 : CycleOf accepted_a 0 300000
cycle_0 = cycle_is slots_0 300000 (omega arith) ∣ (3, refl) ∣₁ ∣ (2, refl) ∣₁ (λ m p q. multiple 2 100000 150000 m refl p q)

cycle_1 : CycleOf accepted_a 1 100000
cycle_1 = cycle_is slots_1 100000 (omega arith) ∣ (1, refl) ∣₁ ∣ (1, refl) ∣₁ (λ m p q. p)

-- Up to 672 leg 0 holds the link, and then leg 2.
both : (y : ℕ) → 0 ≤ y → y < 1344 → RightMask accepted_a 0 y 128
both y f t =
    ⊎_elim (λ (h : y < 672). first_holds slots_0 0 0 672 (omega arith) (omega arith) y f h) (λ (h : 672 ≤ y). second_holds slots_0 0 672 1344 (omega arith) (omega arith) y h t) (lt_or_ge y 672)

pairs_0 : RightFrom (RightMask accepted_a 0) 0 list_of_a 8 300000
pairs_0 =
    in_front 7 (omega arith) both (λ h e. omega (arith, e))
    (in_front 6 (omega arith) (none_holds slots_0 _ _ (λ y f t k h. omega arith) (λ y f t k h. omega arith)) (λ h e. omega (arith, e))
    (in_front 5 (omega arith) (first_holds slots_0 1 _ _ (omega arith) (omega arith)) (λ h e. omega (arith, e))
    (in_front 4 (omega arith) (none_holds slots_0 _ _ (λ y f t k h. omega arith) (λ y f t k h. omega arith)) (λ h e. omega (arith, e))
    (in_front 3 (omega arith) (second_holds slots_0 1 _ _ (omega arith) (omega arith)) (λ h e. omega (arith, e))
    (in_front 2 (omega arith) (none_holds slots_0 _ _ (λ y f t k h. omega arith) (λ y f t k h. omega arith)) (λ h e. omega (arith, e))
    (in_front 1 (omega arith) (first_holds slots_0 2 _ _ (omega arith) (omega arith)) (λ h e. omega (arith, e))
    (in_front 0 (omega arith) (none_holds slots_0 _ _ (λ y f t k h. omega arith) (λ y f t k h. omega arith)) (λ h e. absurd (omega arith))
    (no_pairs 300000 []))))))))

pub list_0 : IsGateList accepted_a 0 list_of_a
list_0 = with_legs _ slots_0.first 300000 8 cycle_0 (from_start pairs_0) refl

pairs_1 : RightFrom (RightMask accepted_a 1) 0 (127 ∷ 1176 ∷ 128 ∷ 672 ∷ 127 ∷ 98152 ∷ []) 3 100000
pairs_1 =
    in_front 2 (omega arith) (none_holds slots_1 _ _ (λ y f t k h. omega arith) (λ y f t k h. omega arith)) (λ h e. omega (arith, e))
    (in_front 1 (omega arith) (first_holds slots_1 0 _ _ (omega arith) (omega arith)) (λ h e. omega (arith, e))
    (in_front 0 (omega arith) (none_holds slots_1 _ _ (λ y f t k h. omega arith) (λ y f t k h. omega arith)) (λ h e. absurd (omega arith))
    (no_pairs 100000 [])))

pub list_1 : IsGateList accepted_a 1 (127 ∷ 1176 ∷ 128 ∷ 672 ∷ 127 ∷ 98152 ∷ [])
list_1 = with_legs _ slots_1.first 100000 3 cycle_1 (from_start pairs_1) refl

pub empty_list : IsGateList empty_link 0 []
empty_list = without_legs (λ s on. omega (arith, on.there)) refl

-- The only leg holds the link from 0 on in each of its repeats.
full_slot : slot_of full_link 0 ≡ slot 0 672
full_slot = slot_is full_link 0 refl refl

full : Two (SlotOn full_link 0) (slot 0 672) (slot 0 672)
full = alone (record { leg = 0; there = omega arith; on = link_is full_link 0; is = sym full_slot }) (λ s on. only s on.leg on.there on.is)
  where
    only : (s : Slot) (a : ℕ) → a < 1 → s ≡ slot_of full_link a → s ≡ slot 0 672
    only s zero h e = e ∙ full_slot
    only s (suc a) h e = absurd (omega arith)

pub full_list : IsGateList full_link 0 (128 ∷ 672 ∷ [])
full_list =
    with_legs _ full.first 672 1 (cycle_is full 672 (omega arith) ∣ (1, refl) ∣₁ ∣ (1, refl) ∣₁ (λ m p q. p))
    (from_start (in_front 0 (omega arith) (first_holds full 0 _ _ (omega arith) (omega arith)) (λ h e. absurd (omega arith)) (no_pairs 672 []))) refl
