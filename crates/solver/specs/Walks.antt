-- Walking back from an event, each time over the constraint that lowered it.
use Rattle.std.specs.Prelude.{◌≡◌, ℕ, ◌+◌, ◌*◌, ◌-◌, ◌≤◌, ◌<◌}
use Rattle.network.specs.Network.{Network}
use Rattle.network.specs.Marks.{unseen}

-- After k steps back the walk stands at x; step a went over constraint `path a`, and `seen` is 1 + the step at which an event was left.
pub record Walked (n : ℕ) (w : Network) (tick by : ℕ → ℕ) (k x : ℕ) (path seen : ℕ → ℕ) : Type 0 where
  pub here : x < n
  pub left : n * w.size < tick x + k * w.size + w.size
  pub count : k + unseen seen n ≡ n
  pub known : (a : ℕ) → a < k → path a < w.size
  pub set : (a : ℕ) → a < k → 0 < tick (w.to (path a))
  pub own : (a : ℕ) → a < k → by (w.to (path a)) ≡ path a
  pub linked : (a : ℕ) → a + 1 < k → w.from (path a) ≡ w.to (path (a + 1))
  pub next : (a : ℕ) → a + 1 ≡ k → w.from (path a) ≡ x
  pub marked : (a : ℕ) → a < k → seen (w.to (path a)) ≡ a + 1
  pub found : (u : ℕ) → u < n → 0 < seen u → (seen u ≤ k) × (w.to (path (seen u - 1)) ≡ u)
