-- The tests have one answer, and say yes exactly when the definitions hold. Assumes nothing.
use Prim.Native.Nat.{ℕ, ◌≤◌}
use mathlib.Core.Path.{refl, subst}
use mathlib.Core.List.{List}
use native.Mathlib.Omega.{arith}
use lib.IntN.{ℤ}
use lib.ListN.{length}
use Rattle.std.specs.Prelude.{true, false, Some, None, Ok, Err}
use Rattle.basics.specs.Lowest.{All}
use Rattle.basics.proofs.Lowest.{not_all, lowest_is_one, from_first}
use Rattle.basics.proofs.Refusals.{same_refusal}
use Rattle.network.specs.Network.{Keeps}
use Rattle.network.specs.Constraints.{times_of, network_of, constraint_count, NetworkInRange}
use Rattle.network.proofs.Ranges.{bounded}
use Rattle.network.proofs.Judging.{network_one}
use Rattle.claims.specs.Claims.{KeepsOne, TestsTimes, TestsChain}
use Rattle.claims.specs.Theorems.{TestTimesOneAnswer, TestChainOneAnswer, TestsAreExact}

pub test_times_one_answer : TestTimesOneAnswer
test_times_one_answer n ws ts (Ok None) (Ok None) x y = refl
test_times_one_answer n ws ts (Ok None) (Ok (Some k)) x y = absurd (not_all y.1 (from_first x.1))
test_times_one_answer n ws ts (Ok (Some k)) (Ok None) x y = absurd (not_all x.1 (from_first y.1))
test_times_one_answer n ws ts (Ok (Some k)) (Ok (Some l)) x y = let e = lowest_is_one x.1 y.1 in cc
test_times_one_answer n ws ts (Ok None) (Err f) x y = absurd ((network_one n ws).none x.0 y)
test_times_one_answer n ws ts (Ok (Some k)) (Err f) x y = absurd ((network_one n ws).none x.0 y)
test_times_one_answer n ws ts (Err e) (Ok None) x y = absurd ((network_one n ws).none y.0 x)
test_times_one_answer n ws ts (Err e) (Ok (Some l)) x y = absurd ((network_one n ws).none y.0 x)
test_times_one_answer n ws ts (Err e) (Err f) x y = let one = (network_one n ws).one x y in same_refusal one.0 one.1

pub test_chain_one_answer : TestChainOneAnswer
test_chain_one_answer n ws ks (Ok true) (Ok true) x y = refl
test_chain_one_answer n ws ks (Ok true) (Ok false) x y = absurd (y.1 x.1)
test_chain_one_answer n ws ks (Ok false) (Ok true) x y = absurd (x.1 y.1)
test_chain_one_answer n ws ks (Ok false) (Ok false) x y = refl
test_chain_one_answer n ws ks (Ok true) (Err f) x y = absurd ((network_one n ws).none x.0 y)
test_chain_one_answer n ws ks (Ok false) (Err f) x y = absurd ((network_one n ws).none x.0 y)
test_chain_one_answer n ws ks (Err e) (Ok true) x y = absurd ((network_one n ws).none y.0 x)
test_chain_one_answer n ws ks (Err e) (Ok false) x y = absurd ((network_one n ws).none y.0 x)
test_chain_one_answer n ws ks (Err e) (Err f) x y = let one = (network_one n ws).one x y in same_refusal one.0 one.1

-- Where every event has a time in the list, keeping each constraint is keeping them all.
pub each_kept : (n : ℕ) (ws ts : List ℤ) → NetworkInRange n ws → n ≤ length ts → Keeps (network_of ws) (times_of ts) → All (KeepsOne (network_of ws) ts) (constraint_count ws)
each_kept n ws ts r h q k z = record { from = omega (arith, (bounded r).from k z); to = omega (arith, (bounded r).to k z); holds = q.keeps k z }

pub tests_are_exact : TestsAreExact
tests_are_exact =
    record {
      kept = λ n ws ts r range x e. record { keeps = λ k z. ((subst (TestsTimes n ws ts) e x).1 k z).holds };
      is_kept = λ n ws ts r range h x q. test_times_one_answer n ws ts r (Ok None) x (range, each_kept n ws ts range h q);
      chain = λ n ws ks r range x e. (subst (TestsChain n ws ks) e x).1;
      is_chain = λ n ws ks r range x q. test_chain_one_answer n ws ks r (Ok true) x (range, q);
    }
