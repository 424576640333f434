-- Every link of an accepted table has a cycle and a gate list: its slots are those of finitely many legs, and each keeps its window. Assumes nothing.
use Prim.Native.Nat.{ℕ, zero, suc, ◌+◌, ◌*◌, ◌≤◌}
use mathlib.Core.Path.{◌≡◌, refl}
use mathlib.Core.List.{List, []}
use mathlib.Core.Logic.{⊎_elim}
use lib.ListN.{take}
use native.Mathlib.Omega.{arith}
use Rattle.basics.proofs.Splits.{eq_or_ne}
use Rattle.table.specs.Layout.{leg_count}
use Rattle.table.specs.Records.{leg_at}
use Rattle.overlap.specs.declared.Slot.{Slot}
use Rattle.rules.specs.Times.{slot_of}
use Rattle.checker.specs.Accepted.{Accepted}
use Rattle.gates.proofs.Existing.{Known, known_none, known_also, known_one_more, known_mask, some_list}
use Rattle.gate_lists.specs.GateList.{SlotOn, RightMask, IsGateList, without_legs}
use Rattle.gate_lists.specs.Steps.{SlotBelow}
use Rattle.gate_lists.specs.Theorems.{GateListsExist}
use Rattle.gate_lists.proofs.Gathering.{slot_on, slot_below, below_more, below_other, below_one}
use Rattle.gate_lists.proofs.Listing.{front_list}
use Rattle.gate_lists.proofs.Repeating.{all_kept}

module _ (t : List ℕ) (l : ℕ) (acc : Accepted t) where
  -- The slots on the link are known, leg by leg.
  known_below : (a : ℕ) → a ≤ leg_count t → Known (SlotBelow t l a)
  known_below zero h = known_none (SlotBelow t l 0) (λ s b. omega (arith, b.below))
  known_below (suc a) h =
      let e : suc a ≡ a + 1 = omega arith in
      let before = known_below a (omega arith) in
      rw e
      (⊎_elim
      (λ (on : (leg_at t a).link ≡ l).
      known_one_more (SlotBelow t l a) (slot_of t a) (SlotBelow t l (a + 1)) (below_one t l a on) (all_kept t l acc (slot_of t a) (record { leg = a; there = h; on = on; is = refl })) before)
      (λ (off : (leg_at t a).link ≡ l → ⊥). known_also (SlotBelow t l a) (SlotBelow t l (a + 1)) (below_more t l a) (below_other t l a off) before)
      (eq_or_ne (leg_at t a).link l))

  known : Known (SlotOn t l)
  known = known_also (SlotBelow t l (leg_count t)) (SlotOn t l) (slot_on t l) (slot_below t l) (known_below (leg_count t) (omega arith))

  some_gate_list : (ws : List ℕ) × IsGateList t l ws
  some_gate_list =
      let c = known.cycle in
      let w = some_list (RightMask t l) (known_mask (SlotOn t l) known) c.0 in
      ⊎_elim
      (λ (h : (s : Slot) × SlotOn t l s).
      (take (2 * w.count) w.words, front_list t l h.0 c.0 h.1 c.1 w.words w.count (omega (arith, w.few, w.long)) w.list))
      (λ (h : (s : Slot) → SlotOn t l s → ⊥). ([], without_legs h refl))
      known.some

pub gate_lists_exist : GateListsExist
gate_lists_exist = record { cycle = λ t l acc. (known t l acc).cycle; list = some_gate_list }
