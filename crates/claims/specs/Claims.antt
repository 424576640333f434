-- The small tests (document 02, L2): of times and of a chain, whoever made them.
use Rattle.std.specs.Prelude.{ℕ, ◌<◌, List, ℤ, ◌-ℤ◌, length, ◌≤ℤ◌, Bool, true, false, Option, Some, None, Result, Ok, Err}
use Rattle.basics.specs.Lowest.{All, Lowest}
use Rattle.basics.specs.declared.Refusal.{Refusal}
use Rattle.network.specs.Network.{Network, Chain}
use Rattle.network.specs.Constraints.{times_of, numbers_of, network_of, constraint_count, NetworkInRange, network_refusals}

-- A list of times keeps constraint k: both of its events have a time in the list, and the constraint holds of them.
pub record KeepsOne (w : Network) (ts : List ℤ) (k : ℕ) : Type 0 where
  pub from : w.from k < length ts
  pub to : w.to k < length ts
  pub holds : (times_of ts (w.to k) -ℤ times_of ts (w.from k)) ≤ℤ w.most k

-- The test of a list of times: it keeps all constraints, or the lowest one that it does not keep.
abbrev pub TestsTimes : ℕ → List ℤ → List ℤ → Result (Option ℕ) Refusal → Type 0
TestsTimes n ws ts (Ok None) = NetworkInRange n ws × All (KeepsOne (network_of ws) ts) (constraint_count ws)
TestsTimes n ws ts (Ok (Some k)) = NetworkInRange n ws × Lowest (KeepsOne (network_of ws) ts) 0 (constraint_count ws) k
TestsTimes n ws ts (Err e) = (network_refusals n ws).Fault e.cause e.at

-- The numbers of a list, all of them and in their order, are a closed chain with a negative sum.
abbrev pub IsChain : List ℤ → List ℕ → Type 0
IsChain ws ks = Chain (network_of ws) (length ks) (numbers_of ks)

-- The test of a list of constraint numbers.
abbrev pub TestsChain : ℕ → List ℤ → List ℕ → Result Bool Refusal → Type 0
TestsChain n ws ks (Ok true) = NetworkInRange n ws × IsChain ws ks
TestsChain n ws ks (Ok false) = NetworkInRange n ws × (IsChain ws ks → ⊥)
TestsChain n ws ks (Err e) = (network_refusals n ws).Fault e.cause e.at
