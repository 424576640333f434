-- Masks, cycles and gate lists at numbers.
use Rattle.std.specs.Prelude.{ℕ, ◌≡◌, List, [], ◌∷◌, ◌⊎◌}
use Rattle.overlap.specs.declared.Slot.{Slot}
use Rattle.gates.specs.Holding.{Right}
use Rattle.gates.specs.Pairs.{ListRight, max_cycle, max_pairs}
use Rattle.gates.specs.Cycle.{IsCycle}

-- A link with one slot: from 1 on it holds the link for 2 ns in each period of 5 ns.
abbrev pub in5 : Slot
in5 = record { offset = 1; period = 5; hold = 2 }

abbrev pub One : Slot → Type 0
One s = s ≡ in5

-- Its list: idle for 1 ns, held for 2 and idle for 2.
abbrev pub list_of_one : List ℕ
list_of_one = 127 ∷ 1 ∷ 128 ∷ 2 ∷ 127 ∷ 2 ∷ []

-- A link with two slots, of periods of 4 and 6 ns, that never meet.
abbrev pub in4 : Slot
in4 = record { offset = 0; period = 4; hold = 1 }

abbrev pub in6 : Slot
in6 = record { offset = 3; period = 6; hold = 1 }

abbrev pub Two : Slot → Type 0
Two s = (s ≡ in4) ⊎ (s ≡ in6)

pub record GatesAtNumbers : Type 0 where
  -- The link with one slot is held at 1 and at 2, and again from 6 on. It is idle at 0, and at 3, where the hold has ended.
  pub at_0 : Right One 0 127
  pub at_1 : Right One 1 128
  pub at_2 : Right One 2 128
  pub at_3 : Right One 3 127
  pub at_6 : Right One 6 128
  -- Its cycle is its period, in which its list has three pairs.
  pub cycle_of_one : IsCycle One 5
  pub list_of_one_is : ListRight (Right One) 5 list_of_one 3
  -- The cycle of periods of 4 and 6 ns is 12 ns, and not their product.
  pub cycle_of_two : IsCycle Two 12
  -- The limits: a cycle of one second, and 1,024 pairs.
  pub longest : max_cycle ≡ 1000000000
  pub most : max_pairs ≡ 1024
