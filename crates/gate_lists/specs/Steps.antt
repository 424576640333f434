-- What the inner functions of this crate tell.
use Rattle.std.specs.Prelude.{ℕ, ◌*◌, ◌≤◌, ◌<◌, ◌≡◌, List, length, take, Result, Ok, Err}
use Rattle.basics.specs.declared.Refusal.{Refusal}
use Rattle.table.specs.Records.{leg_at}
use Rattle.overlap.specs.declared.Slot.{Slot}
use Rattle.rules.specs.Times.{slot_of}
use Rattle.gates.specs.Pairs.{max_pairs}
use Rattle.gates.specs.Steps.{InSlots, Slots}
use Rattle.gates.specs.declared.slots.StoredSlot.{StoredSlot}
use Rattle.gate_lists.specs.GateList.{IsGateList}
use Rattle.gate_lists.specs.Lists.{ShortCycle, length_refusals}

-- s is the slot of one of the first so many legs of table t, on link l.
pub record SlotBelow (t : List ℕ) (l legs : ℕ) (s : Slot) : Type 0 where
  pub leg : ℕ
  pub below : leg < legs
  pub on : (leg_at t leg).link ≡ l
  pub is : s ≡ slot_of t leg

-- The first n slots of a list are the slots of those legs on link l, in any order, and each keeps its window.
pub record Gathered (t : List ℕ) (l legs : ℕ) (slots : List StoredSlot) (n : ℕ) : Type 0 where
  pub kept : Slots slots n
  pub few : n ≤ legs
  pub from : (s : Slot) → SlotBelow t l legs s → InSlots slots n s
  pub to : (s : Slot) → InSlots slots n s → SlotBelow t l legs s

-- The first n pairs in words are the gate list of link l.
pub record ListLies (t : List ℕ) (l : ℕ) (words : List ℕ) (n : ℕ) : Type 0 where
  pub short : ShortCycle t l
  pub few : n ≤ max_pairs
  pub room : 2 * n ≤ length words
  pub list : IsGateList t l (take (2 * n) words)

-- The gate list of a link of an accepted table, written to words: how many pairs it has, or the refusal 21 or 22.
abbrev pub ListTold : List ℕ → ℕ → List ℕ → Result ℕ Refusal → Type 0
ListTold t l words (Ok n) = ListLies t l words n
ListTold t l words (Err e) = (length_refusals t l).Fault e.cause e.at
