-- What the rounds keep true. Each event v has a time t v, the tick at which it was last lowered (0 for never), and the number by v of the constraint that lowered
-- it. The look at constraint k in the round that begins after tick b is tick b + k + 1.
use Rattle.std.specs.Prelude.{◌≡◌, ◌⊎◌, ℕ, ◌+◌, ◌*◌, ◌≤◌, ◌<◌, ℤ, pos, nat_abs, ◌+ℤ◌, ◌≤ℤ◌, ◌<ℤ◌}
use Rattle.network.specs.Network.{Network, Times, Keeps, NoneAbove}
use Rattle.network.specs.Constraints.{max_most}

-- Constraint k holds, as a sum.
abbrev pub Holds : Network → Times → ℕ → Type 0
Holds w t k = t (w.to k) ≤ℤ (t (w.from k) +ℤ w.most k)

-- The time of u and s together are at most the time of v. If they are equal, u was lowered before v.
pub record Falls (t : Times) (tick : ℕ → ℕ) (u : ℕ) (s : ℤ) (v : ℕ) : Type 0 where
  pub most : (t u +ℤ s) ≤ℤ t v
  pub less : ((t u +ℤ s) <ℤ t v) ⊎ (tick u < tick v)

-- After the looks at the first k constraints of a round: no time is above zero, none is earlier than it has to be, and times past n are 0. Whatever was lowered was
-- lowered by a constraint that ends there, whose beginning was itself lowered less than a round before or later. A constraint that does not hold begins at an event
-- that was lowered since the last look at it.
pub record Kept (n : ℕ) (w : Network) (b k : ℕ) (t : Times) (tick by : ℕ → ℕ) : Type 0 where
  pub none : (v : ℕ) → v < n → t v ≤ℤ pos 0
  pub late : (s : Times) → Keeps w s → NoneAbove n s → (v : ℕ) → v < n → s v ≤ℤ t v
  pub rest : (v : ℕ) → n ≤ v → t v ≡ pos 0
  pub small : (v : ℕ) → v < n → nat_abs (t v) ≤ (b + k) * max_most
  pub past : (v : ℕ) → v < n → tick v ≤ b + k
  pub known : (v : ℕ) → v < n → 0 < tick v → by v < w.size
  pub ends : (v : ℕ) → v < n → 0 < tick v → w.to (by v) ≡ v
  pub near : (v : ℕ) → v < n → 0 < tick v → tick v ≤ tick (w.from (by v)) + w.size
  pub falls : (v : ℕ) → v < n → 0 < tick v → Falls t tick (w.from (by v)) (w.most (by v)) v
  pub passed : (e : ℕ) → e < w.size → e < k → Holds w t e ⊎ (b + e + 1 ≤ tick (w.from e))
  pub ahead : (e : ℕ) → e < w.size → k ≤ e → Holds w t e ⊎ (b + e + 1 ≤ tick (w.from e) + w.size)
