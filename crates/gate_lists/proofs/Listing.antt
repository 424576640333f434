-- What is told of slots that were gathered is told of the link. Assumes nothing.
use Rattle.std.specs.Prelude.{Option, Some, None, Result, Ok, Err}
use Rattle.std.specs.Option.{ok_or}
use Rattle.basics.specs.declared.Refusal.{Refusal}
use Prim.Native.Nat.{ℕ, ◌+◌, ◌*◌, ◌≤◌}
use mathlib.Core.Path.{◌≡◌, refl, sym, subst}
use mathlib.Core.List.{List}
use mathlib.Core.Logic.{inl, inr}
use lib.ListN.{length, take}
use lib.Seq.{get_or-take, length-take-le}
use native.Mathlib.Omega.{arith}
use Rattle.basics.specs.Cause.{refused}
use Rattle.basics.specs.declared.Cause.TheVariants as cause
use Rattle.table.specs.Layout.{leg_count}
use Rattle.overlap.specs.declared.Slot.{Slot}
use Rattle.gates.specs.Holding.{Right}
use Rattle.gates.specs.Pairs.{ListRight, max_pairs, max_cycle}
use Rattle.gates.specs.Cycle.{IsCycle}
use Rattle.gates.specs.Steps.{slot_in, InSlots, Unfinished, CycleTold, PairsTold}
use Rattle.gates.specs.declared.slots.StoredSlot.{StoredSlot}
use Rattle.gates.proofs.Masks.{one_mask_is_right, right_also}
use Rattle.gates.proofs.Cycles.{cycle_empty, cycle_also, one_cycle}
use Rattle.gates.proofs.OneList.{unfinished_is_shorter}
use Rattle.gates.proofs.Growing.{Alike, list_also, list_alike, unfinished_also}
use Rattle.gate_lists.specs.GateList.{SlotOn, CycleOf, RightMask, IsGateList, without_legs, with_legs}
use Rattle.gate_lists.specs.Lists.{ShortCycle, FewPairs}
use Rattle.gate_lists.specs.Steps.{Gathered, ListTold}
use Rattle.gate_lists.proofs.Gathering.{slot_on, slot_below}

-- A list that has legs has no list of a link without.
pub many_not_few : (t : List ℕ) (l c : ℕ) (s : Slot) (words : List ℕ) → SlotOn t l s → CycleOf t l c → Unfinished (RightMask t l) c words max_pairs → FewPairs t l → ⊥
many_not_few t l c s words on is o f = go f.list f.is f.few
  where
    go : (ws : List ℕ) → IsGateList t l ws → length ws ≤ 2 * max_pairs → ⊥
    go ws (without_legs none e) few = none s on
    go ws (with_legs r ron d n cycle right long) few =
        let e : d ≡ c = one_cycle (SlotOn t l) d c cycle is in
        omega (arith, unfinished_is_shorter (RightMask t l) (one_mask_is_right (SlotOn t l)) c words max_pairs ws n o (subst (λ (z : ℕ). ListRight (RightMask t l) z ws n) e right))

-- The pairs in front, without the words behind them.
pub front_list : (t : List ℕ) (l : ℕ) (s : Slot) (c : ℕ) → SlotOn t l s → CycleOf t l c → (words : List ℕ) (n : ℕ) → 2 * n ≤ length words → ListRight (RightMask t l) c words n
    → IsGateList t l (take (2 * n) words)
front_list t l s c on is words n room right =
    let front : Alike words (take (2 * n) words) n = record {
      mask = λ i h. sym (get_or-take (2 * n) words (2 * i) 0 (omega arith));
      duration = λ i h. sym (get_or-take (2 * n) words (2 * i + 1) 0 (omega arith));
    } in
    with_legs s on c n is (list_alike (RightMask t l) c words (take (2 * n) words) n front right) (length-take-le (2 * n) words room)

module _ (t : List ℕ) (l : ℕ) (slots : List StoredSlot) (count : ℕ) (g : Gathered t l (leg_count t) slots count) where
  to_link : (s : Slot) → InSlots slots count s → SlotOn t l s
  to_link s w = slot_on t l s (g.to s w)

  from_link : (s : Slot) → SlotOn t l s → InSlots slots count s
  from_link s o = g.from s (slot_below t l s o)

  some_slot : 1 ≤ count → SlotOn t l (slot_in slots 0)
  some_slot h = to_link (slot_in slots 0) (record { which = 0; there = h; is = refl })

  cycle_of : (c : ℕ) → IsCycle (InSlots slots count) c → CycleOf t l c
  cycle_of c p = cycle_also (InSlots slots count) (SlotOn t l) c to_link from_link p

  -- No slot.
  pub list_none : (words : List ℕ) → count ≡ 0 → ListTold t l words (Ok 0)
  list_none words e =
      let none : (s : Slot) → SlotOn t l s → ⊥ = λ s o. omega (arith, (from_link s o).there) in
      record {
        short = record { cycle = 1; is = cycle_empty (SlotOn t l) none; short = omega arith };
        few = omega arith;
        room = omega arith;
        list = without_legs none refl;
      }

  -- The cycle passes the limit.
  pub list_past : (words : List ℕ) → CycleTold (InSlots slots count) None → ListTold t l words (refused cause.LongCycle 0)
  list_past words p = inl (refl, refl, λ s. omega (arith, p s.cycle (cycle_also (SlotOn t l) (InSlots slots count) s.cycle from_link to_link s.is), s.short))

  -- The same of an option with the refusal beside it.
  pub cycle_refused : (words : List ℕ) (o : Option ℕ) (d : Refusal) {e : Refusal} → CycleTold (InSlots slots count) o → Err e ≡ ok_or o d → d ≡ record { cause = cause.LongCycle; at = 0 }
      → ListTold t l words (Err e)
  cycle_refused words None d {e} told is due = let same : e ≡ d = cc in rw (same, due) (list_past words told)
  cycle_refused words (Some c) d told is due = absurd (cc)

  pub cycle_given : (o : Option ℕ) (d : Refusal) {c : ℕ} → CycleTold (InSlots slots count) o → Ok c ≡ ok_or o d → IsCycle (InSlots slots count) c × (c ≤ max_cycle)
  cycle_given None d told is = absurd (cc)
  cycle_given (Some b) d {c} told is = let same : c ≡ b = cc in rw same told

  module _ (c : ℕ) (is : IsCycle (InSlots slots count) c) (short : c ≤ max_cycle) (some : 1 ≤ count) where
    short_cycle : ShortCycle t l
    short_cycle = record { cycle = c; is = cycle_of c is; short = short }

    to_right : (x m : ℕ) → Right (InSlots slots count) x m → RightMask t l x m
    to_right = right_also (InSlots slots count) (SlotOn t l) to_link from_link

    from_right : (x m : ℕ) → RightMask t l x m → Right (InSlots slots count) x m
    from_right = right_also (SlotOn t l) (InSlots slots count) from_link to_link

    -- There are too many pairs.
    pub list_many : (words : List ℕ) → PairsTold (Right (InSlots slots count)) c words None → ListTold t l words (refused cause.TooManyPairs 0)
    list_many words o = inr (short_cycle, (refl, refl, many_not_few t l c (slot_in slots 0) words (some_slot some) (cycle_of c is) (unfinished_also _ _ c words max_pairs to_right from_right o)))

    -- The pairs in front are the list.
    pub list_pairs : (words : List ℕ) (n : ℕ) → length words ≡ 2 * max_pairs → PairsTold (Right (InSlots slots count)) c words (Some n) → ListTold t l words (Ok n)
    list_pairs words n long (right, few) = record {
      short = short_cycle;
      few = few;
      room = omega arith;
      list = front_list t l (slot_in slots 0) c (some_slot some) (cycle_of c is) words n (omega arith) (list_also _ _ c words n to_right right);
    }

    -- Either of the two, as an option with the refusal beside it.
    pub list_told : (words : List ℕ) (o : Option ℕ) (d : Refusal) {r : Result ℕ Refusal} → length words ≡ 2 * max_pairs → PairsTold (Right (InSlots slots count)) c words o
        → d ≡ record { cause = cause.TooManyPairs; at = 0 } → r ≡ ok_or o d → ListTold t l words r
    list_told words None d long told due same = rw (same, due) (list_many words told)
    list_told words (Some n) d long told due same = rw same (list_pairs words n long told)
