-- What is proved of the calls for C of temporal networks.
use Rattle.std.specs.Prelude.{ℕ, ◌≤◌, ◌≡◌, List, ◌⊎◌, ℤ, length}
use Rattle.network.specs.Network.{Times, Keeps}
use Rattle.network.specs.Constraints.{numbers_of, network_of}
use Rattle.solver.specs.Solving.{solve_refusals}
use Rattle.network_host.specs.Calls.{refused_result, HostSolves, HostTestsTimes, HostTestsChain}
use Rattle.network_host.specs.declared.NetworkAnswer.{NetworkAnswer}
use Rattle.network_host.specs.declared.Verdict.{Verdict}

-- The result of both is 1, a chain, and every lent word past both chains is the same.
pub record HostBothChains (a b : NetworkAnswer) (after after' : List ℕ) : Type 0 where
  pub first : a.result ≡ 1
  pub second : b.result ≡ 1
  pub past : (i : ℕ) → a.number ≤ i → b.number ≤ i → numbers_of after i ≡ numbers_of after' i
  pub long : length after ≡ length after'

-- Solving has one answer, but for the chain: two answers have the same times, and are the same, with the same lent words, unless both gave a chain.
abbrev pub HostSolveOneAnswer : Type 0
HostSolveOneAnswer =
    (n : ℕ) (ws : List ℤ) (before : List ℕ) (a b : NetworkAnswer) (after after' : List ℕ)
    → HostSolves n ws before a after → HostSolves n ws before b after'
    → (a.times ≡ b.times) × (((a.result ≡ b.result) × (a.number ≡ b.number) × (after ≡ after')) ⊎ HostBothChains a b after after')

-- Each test has one answer.
abbrev pub HostTestTimesOneAnswer : Type 0
HostTestTimesOneAnswer = (n : ℕ) (ws ts : List ℤ) (v v' : Verdict) → HostTestsTimes n ws ts v → HostTestsTimes n ws ts v' → v ≡ v'

abbrev pub HostTestChainOneAnswer : Type 0
HostTestChainOneAnswer = (n : ℕ) (ws : List ℤ) (ks : List ℕ) (v v' : Verdict) → HostTestsChain n ws ks v → HostTestsChain n ws ks v' → v ≡ v'

-- Of calls that are not refused, the result is 1, a chain, exactly when no times keep the constraints.
pub record HostChainsExactlyWithoutTimes : Type 0 where
  pub refutes : (n : ℕ) (ws : List ℤ) (before : List ℕ) (a : NetworkAnswer) (after : List ℕ) → HostSolves n ws before a after → a.result ≡ 1 → (t : Times) → Keeps (network_of ws) t → ⊥
  pub found : (n : ℕ) (ws : List ℤ) (before : List ℕ) (a : NetworkAnswer) (after : List ℕ) → HostSolves n ws before a after → (solve_refusals n ws (length before)).Clear
      → ((t : Times) → Keeps (network_of ws) t → ⊥) → a.result ≡ 1

-- Which results there are: of solving 0, 1, 115, 116 and 127, of the test of times 0, 2, 116 and 127, of the test of a chain 1, 3, 116 and 127.
pub record NetworkResultsAreThese : Type 0 where
  pub solve : (n : ℕ) (ws : List ℤ) (before : List ℕ) (a : NetworkAnswer) (after : List ℕ) → HostSolves n ws before a after
      → (a.result ≡ 0) ⊎ (a.result ≡ 1) ⊎ (a.result ≡ 115) ⊎ (a.result ≡ 116) ⊎ (a.result ≡ 127)
  pub test_times : (n : ℕ) (ws ts : List ℤ) (v : Verdict) → HostTestsTimes n ws ts v → (v.result ≡ 0) ⊎ (v.result ≡ 2) ⊎ (v.result ≡ 116) ⊎ (v.result ≡ 127)
  pub test_chain : (n : ℕ) (ws : List ℤ) (ks : List ℕ) (v : Verdict) → HostTestsChain n ws ks v → (v.result ≡ 1) ⊎ (v.result ≡ 3) ⊎ (v.result ≡ 116) ⊎ (v.result ≡ 127)

-- A refusal, which is a result of 100 or more, writes nothing.
abbrev pub HostSolveRefusalsWriteNothing : Type 0
HostSolveRefusalsWriteNothing =
    (n : ℕ) (ws : List ℤ) (before : List ℕ) (a : NetworkAnswer) (after : List ℕ) → HostSolves n ws before a after → refused_result 0 ≤ a.result → after ≡ before
