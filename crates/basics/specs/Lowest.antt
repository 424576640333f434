-- The lowest of many records that is not good.
use Rattle.std.specs.Prelude.{ℕ, ◌≤◌, ◌<◌, Option, Some, None}

-- Good holds of every record below n, and of every record from one up to but without another.
abbrev pub All : (ℕ → Type 0) → ℕ → Type 0
All Good n = (i : ℕ) → i < n → Good i

abbrev pub AllFrom : (ℕ → Type 0) → ℕ → ℕ → Type 0
AllFrom Good from to = (i : ℕ) → from ≤ i → i < to → Good i

-- Record p is the lowest of them that is not good.
pub record Lowest (Good : ℕ → Type 0) (from to p : ℕ) : Type 0 where
  pub above : from ≤ p
  pub inside : p < to
  pub bad : Good p → ⊥
  pub before : AllFrom Good from p

-- The lowest that is not good, or that all are.
abbrev pub Finds : (ℕ → Type 0) → ℕ → ℕ → Option ℕ → Type 0
Finds Good from to (Some p) = Lowest Good from to p
Finds Good from to None = AllFrom Good from to
