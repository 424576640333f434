-- Gate lists out (document 02, L7): the gate control list of one link of a table.
use Rattle.std.specs.Prelude.{ℕ, ◌*◌, ◌<◌, ◌≡◌, List, [], length}
use Rattle.table.specs.Layout.{leg_count}
use Rattle.table.specs.Records.{leg_at}
use Rattle.overlap.specs.declared.Slot.{Slot}
use Rattle.rules.specs.Times.{slot_of}
use Rattle.gates.specs.Holding.{Right}
use Rattle.gates.specs.Pairs.{ListRight}
use Rattle.gates.specs.Cycle.{IsCycle}

-- s is the slot of a leg of table t on link l, as overlap sees it: the leg's offset, its period, and how long it holds its link. (Its period word plays no part.)
pub record SlotOn (t : List ℕ) (l : ℕ) (s : Slot) : Type 0 where
  pub leg : ℕ
  pub there : leg < leg_count t
  pub on : (leg_at t leg).link ≡ l
  pub is : s ≡ slot_of t leg

-- c is the cycle of link l: the least common multiple of the periods on it.
abbrev pub CycleOf : List ℕ → ℕ → ℕ → Type 0
CycleOf t l c = IsCycle (SlotOn t l) c

-- m is the right mask of link l at instant x: 128 while a leg holds the link, and 127 otherwise.
abbrev pub RightMask : List ℕ → ℕ → ℕ → ℕ → Type 0
RightMask t l x m = Right (SlotOn t l) x m

-- THE GATE LIST ws of link l of table t, in words: mask, duration, mask, duration. Without legs it is empty. Else it has n pairs, which have the right mask at every instant of
-- the cycle, last at least 1 ns each, differ from their neighbours and add up to the cycle. It is asked of links of accepted tables: of others it says nothing about later cycles.
pub data IsGateList (t : List ℕ) (l : ℕ) (ws : List ℕ) : Type 0 where
  without_legs : ((s : Slot) → SlotOn t l s → ⊥) → ws ≡ [] → IsGateList t l ws
  with_legs : (s : Slot) → SlotOn t l s → (c n : ℕ) → CycleOf t l c → ListRight (RightMask t l) c ws n → length ws ≡ 2 * n → IsGateList t l ws
