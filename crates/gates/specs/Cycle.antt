-- The cycle of a link: the least common multiple of the periods on it (document 02, L7), by its meaning.
use Rattle.std.specs.Prelude.{ℕ, ◌≤◌}
use Rattle.std.specs.Int.{◌∣◌}
use Rattle.overlap.specs.declared.Slot.{Slot}

-- The period of each slot on the link divides m.
pub record CommonMultiple (S : Slot → Type 0) (m : ℕ) : Type 0 where
  pub divides : (s : Slot) → S s → s.period ∣ m

-- c is the least common multiple of these periods: it is at least 1, each of them divides it, and it divides whatever all of them divide. Without slots it is 1.
pub record IsCycle (S : Slot → Type 0) (c : ℕ) : Type 0 where
  pub positive : 1 ≤ c
  pub common : CommonMultiple S c
  pub least : (m : ℕ) → CommonMultiple S m → c ∣ m
