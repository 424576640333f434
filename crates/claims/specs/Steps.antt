-- What inner functions promise.
use Rattle.std.specs.Prelude.{ℕ, ◌+◌, ◌*◌, ◌≤◌, ◌<◌, ◌≡◌, List, ℤ, nat_abs, length, get_or, Bool, true, false, cond, Option, Some, None}
use Rattle.network.specs.Network.{total}
use Rattle.network.specs.Constraints.{max_events, max_most, numbers_of, network_of, constraint_count, NetworkInRange}
use Rattle.network.specs.Marks.{unseen}
use Rattle.network.specs.Steps.{Reads}
use Rattle.network.specs.declared.Constraint.{Constraint}

-- The constraint that a number names, or that it names none.
abbrev pub Names : Option Constraint → ℕ → List ℤ → ℕ → Type 0
Names (Some c) n ws k = (k < constraint_count ws) × Reads (network_of ws) n k c
Names None n ws k = constraint_count ws ≤ k

-- Whether event v is marked, and its mark as a number.
abbrev pub marked_in : List Bool → ℕ → Bool
marked_in seen v = get_or seen v false

abbrev pub marks_of : List Bool → ℕ → ℕ
marks_of seen v = cond (marked_in seen v) 1 0

-- The first a numbers of a list are linked, from event first to event at, and meet no event twice. The events that are left are marked, and no others; s is the sum.
pub record Linked (n : ℕ) (ws : List ℤ) (ks : List ℕ) (a at first : ℕ) (s : ℤ) (seen : List Bool) : Type 0 where
  pub range : NetworkInRange n ws
  pub long : length seen ≡ max_events
  pub count : a + unseen (marks_of seen) n ≡ n
  pub known : (b : ℕ) → b < a → numbers_of ks b < constraint_count ws
  pub linked : (b : ℕ) → b + 1 < a → (network_of ws).to (numbers_of ks b) ≡ (network_of ws).from (numbers_of ks (b + 1))
  pub begins : first ≡ (network_of ws).from (numbers_of ks 0)
  pub stands : (b : ℕ) → b + 1 ≡ a → at ≡ (network_of ws).to (numbers_of ks b)
  pub starts : a ≡ 0 → at ≡ first
  pub once : (b d : ℕ) → b < d → d < a → (network_of ws).from (numbers_of ks b) ≡ (network_of ws).from (numbers_of ks d) → ⊥
  pub marked : (b : ℕ) → b < a → marked_in seen ((network_of ws).from (numbers_of ks b)) ≡ true
  pub found : (u : ℕ) → u < n → marked_in seen u ≡ true → (b : ℕ) × (b < a) × ((network_of ws).from (numbers_of ks b) ≡ u)
  pub sum : s ≡ total (network_of ws) (numbers_of ks) a
  pub small : nat_abs s ≤ a * max_most
