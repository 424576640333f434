-- What is proved of the small tests.
use Rattle.std.specs.Prelude.{ℕ, ◌≤◌, ◌≡◌, List, ℤ, length, Bool, true, Option, None, Result, Ok}
use Rattle.basics.specs.declared.Refusal.{Refusal}
use Rattle.network.specs.Network.{Keeps}
use Rattle.network.specs.Constraints.{times_of, network_of, NetworkInRange}
use Rattle.claims.specs.Claims.{TestsTimes, IsChain, TestsChain}

-- Each test has one answer.
abbrev pub TestTimesOneAnswer : Type 0
TestTimesOneAnswer = (n : ℕ) (ws ts : List ℤ) (r r' : Result (Option ℕ) Refusal) → TestsTimes n ws ts r → TestsTimes n ws ts r' → r ≡ r'

abbrev pub TestChainOneAnswer : Type 0
TestChainOneAnswer = (n : ℕ) (ws : List ℤ) (ks : List ℕ) (r r' : Result Bool Refusal) → TestsChain n ws ks r → TestsChain n ws ks r' → r ≡ r'

-- In a network that is not refused, each test says yes exactly when the definition holds. Of times that are fewer than the events (is_kept does not speak of them),
-- `KeepsOne` says what is kept.
pub record TestsAreExact : Type 0 where
  pub kept : (n : ℕ) (ws ts : List ℤ) (r : Result (Option ℕ) Refusal) → NetworkInRange n ws → TestsTimes n ws ts r → r ≡ Ok None → Keeps (network_of ws) (times_of ts)
  pub is_kept : (n : ℕ) (ws ts : List ℤ) (r : Result (Option ℕ) Refusal) → NetworkInRange n ws → n ≤ length ts → TestsTimes n ws ts r → Keeps (network_of ws) (times_of ts) → r ≡ Ok None
  pub chain : (n : ℕ) (ws : List ℤ) (ks : List ℕ) (r : Result Bool Refusal) → NetworkInRange n ws → TestsChain n ws ks r → r ≡ Ok true → IsChain ws ks
  pub is_chain : (n : ℕ) (ws : List ℤ) (ks : List ℕ) (r : Result Bool Refusal) → NetworkInRange n ws → TestsChain n ws ks r → IsChain ws ks → r ≡ Ok true
