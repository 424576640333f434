-- What is proved of solving a network.
use Rattle.std.specs.Prelude.{ℕ, ◌≤◌, ◌≡◌, List, ◌⊎◌, ℤ, length, take, Bool, true, Option, Some, None, Result, Ok}
use Rattle.basics.specs.declared.Refusal.{Refusal}
use Rattle.network.specs.Network.{Times, Keeps}
use Rattle.network.specs.Constraints.{numbers_of, network_of}
use Rattle.claims.specs.Claims.{TestsTimes, TestsChain}
use Rattle.solver.specs.Solving.{solve_refusals, Solves}
use Rattle.solver.specs.declared.Solved.{Solved}

-- A chain was given.
abbrev pub GaveChain : Result (Option ℕ) Refusal → Type 0
GaveChain o = (l : ℕ) × (o ≡ Ok (Some l))

-- Both gave a chain, and every lent word past both of them is the same.
pub record BothChains (o p : Result (Option ℕ) Refusal) (after after' : List ℕ) : Type 0 where
  pub one : ℕ
  pub other : ℕ
  pub first : o ≡ Ok (Some one)
  pub second : p ≡ Ok (Some other)
  pub past : (a : ℕ) → one ≤ a → other ≤ a → numbers_of after a ≡ numbers_of after' a
  pub long : length after ≡ length after'

-- Solving has one answer, but for the chain: two answers have the same times, and the same outcome and lent words, unless both gave a chain. Which one may differ.
abbrev pub SolveOneAnswer : Type 0
SolveOneAnswer =
    (n : ℕ) (ws : List ℤ) (before : List ℕ) (a b : Solved) (after after' : List ℕ)
    → Solves n ws before a after → Solves n ws before b after'
    → (a.times ≡ b.times) × (((a.outcome ≡ b.outcome) × (after ≡ after')) ⊎ BothChains a.outcome b.outcome after after')

-- Of calls that are not refused, a chain is given exactly when no times exist: none at all that keep the constraints, be they above zero or not.
pub record ChainsExactlyWithoutTimes : Type 0 where
  pub refutes : (n : ℕ) (ws : List ℤ) (before : List ℕ) (a : Solved) (after : List ℕ) → Solves n ws before a after → GaveChain a.outcome → (t : Times) → Keeps (network_of ws) t → ⊥
  pub found : (n : ℕ) (ws : List ℤ) (before : List ℕ) (a : Solved) (after : List ℕ) → Solves n ws before a after → (solve_refusals n ws (length before)).Clear
      → ((t : Times) → Keeps (network_of ws) t → ⊥) → GaveChain a.outcome

-- What is given passes the tests: the times as they are, and the first words as a chain.
pub record SolvedPassesTheTests : Type 0 where
  pub kept : (n : ℕ) (ws : List ℤ) (before : List ℕ) (a : Solved) (after : List ℕ) (r : Result (Option ℕ) Refusal)
      → Solves n ws before a after → a.outcome ≡ Ok None → TestsTimes n ws a.times r → r ≡ Ok None
  pub chain : (n : ℕ) (ws : List ℤ) (before : List ℕ) (a : Solved) (after : List ℕ) (l : ℕ) (r : Result Bool Refusal)
      → Solves n ws before a after → a.outcome ≡ Ok (Some l) → TestsChain n ws (take l after) r → r ≡ Ok true
