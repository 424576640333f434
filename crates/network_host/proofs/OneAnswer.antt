-- The calls for C have one answer each, but for the chain. Assumes nothing.
use Prim.Native.Nat.{ℕ, ◌≤◌}
use mathlib.Core.Path.{◌≡◌, refl, sym, ap, subst, ◌∙◌}
use mathlib.Core.List.{List}
use mathlib.Core.Logic.{◌⊎◌, inl, inr, ⊎_elim}
use native.Mathlib.Omega.{arith}
use lib.IntN.{ℤ}
use Rattle.std.specs.Prelude.{Bool, true, false, Option, Some, None, Result, Ok, Err}
use Rattle.basics.specs.Cause.{number_of}
use Rattle.basics.specs.declared.Cause.{Cause}
use Rattle.basics.specs.declared.Refusal.{Refusal}
use Rattle.network.specs.Constraints.{network_refusals}
use Rattle.claims.proofs.OneAnswer.{test_times_one_answer, test_chain_one_answer}
use Rattle.claims.specs.Claims.{TestsTimes, TestsChain}
use Rattle.solver.specs.Solving.{solve_refusals, SolvesWith}
use Rattle.solver.specs.Theorems.{GaveChain}
use Rattle.solver.proofs.OneAnswer.{solve_one_answer, chains_exactly_without_times}
use Rattle.network_host.specs.Calls.{outcome_verdict, times_verdict, chain_verdict, refused_result}
use Rattle.network_host.specs.Theorems.{HostSolveOneAnswer, HostTestTimesOneAnswer, HostTestChainOneAnswer, HostChainsExactlyWithoutTimes, NetworkResultsAreThese, HostSolveRefusalsWriteNothing}
use Rattle.network_host.specs.declared.Verdict.{Verdict}

pub host_solve_one_answer : HostSolveOneAnswer
host_solve_one_answer n ws before a b after after' x y =
    let o = solve_one_answer n ws before x.given y.given after after' x.solves y.solves in (
      x.times ∙ o.0 ∙ sym y.times,
      ⊎_elim
          (λ q. inl (x.result ∙ ap (λ r. (outcome_verdict r).result) q.0 ∙ sym y.result, x.number ∙ ap (λ r. (outcome_verdict r).number) q.0 ∙ sym y.number, q.1))
          (λ q.
          let e : a.number ≡ q.one = x.number ∙ ap (λ r. (outcome_verdict r).number) q.first in
          let f : b.number ≡ q.other = y.number ∙ ap (λ r. (outcome_verdict r).number) q.second in
          inr
          (record {
            first = x.result ∙ ap (λ r. (outcome_verdict r).result) q.first;
            second = y.result ∙ ap (λ r. (outcome_verdict r).result) q.second;
            past = λ i h k. q.past i (omega arith) (omega arith);
            long = q.long;
          }))
          o.1,
    )

pub host_test_times_one_answer : HostTestTimesOneAnswer
host_test_times_one_answer n ws ts v v' x y = x.answer ∙ ap times_verdict (test_times_one_answer n ws ts x.given y.given x.tests y.tests) ∙ sym y.answer

pub host_test_chain_one_answer : HostTestChainOneAnswer
host_test_chain_one_answer n ws ks v v' x y = x.answer ∙ ap chain_verdict (test_chain_one_answer n ws ks x.given y.given x.tests y.tests) ∙ sym y.answer

refused_nothing : (n : ℕ) (ws : List ℤ) (before : List ℕ) (o : Result (Option ℕ) Refusal) (t : List ℤ) (after : List ℕ) → SolvesWith n ws before o t after → refused_result 0 ≤ (outcome_verdict o).result → after ≡ before
refused_nothing n ws before (Ok None) t after x h = x.2
refused_nothing n ws before (Ok (Some l)) t after x h = absurd (omega arith)
refused_nothing n ws before (Err e) t after x h = x.2

pub host_solve_refusals_write_nothing : HostSolveRefusalsWriteNothing
host_solve_refusals_write_nothing n ws before a after x h = refused_nothing n ws before x.given.outcome x.given.times after x.solves (subst (λ r. refused_result 0 ≤ r) x.result h)

-- A result of 1 is a chain.
one_is_chain : (o : Result (Option ℕ) Refusal) → (outcome_verdict o).result ≡ 1 → GaveChain o
one_is_chain (Ok None) e = absurd (omega (arith, e))
one_is_chain (Ok (Some l)) e = (l, refl)
one_is_chain (Err f) e = absurd (omega (arith, e))

pub host_chains_exactly_without_times : HostChainsExactlyWithoutTimes
host_chains_exactly_without_times =
    record {
      refutes = λ n ws before a after x e. chains_exactly_without_times.refutes n ws before x.given after x.solves (one_is_chain x.given.outcome (sym x.result ∙ e));
      found = λ n ws before a after x c h. x.result ∙ ap (λ o. (outcome_verdict o).result) (chains_exactly_without_times.found n ws before x.given after x.solves c h).1;
    }

-- Which results there are.
module _ (n : ℕ) (ws : List ℤ) where
  of_network : {k : Cause} {p : ℕ} → (network_refusals n ws).Fault k p → (refused_result (number_of k) ≡ 116) ⊎ (refused_result (number_of k) ≡ 127)
  of_network (inl f) = inr (ap (λ c. refused_result (number_of c)) f.0)
  of_network (inr f) = inl (ap (λ c. refused_result (number_of c)) f.1.0)

  of_solving : {room : ℕ} {k : Cause} {p : ℕ} → (solve_refusals n ws room).Fault k p → (refused_result (number_of k) ≡ 115) ⊎ (refused_result (number_of k) ≡ 116) ⊎ (refused_result (number_of k) ≡ 127)
  of_solving (inl f) = inr (of_network f)
  of_solving (inr f) = inl (ap (λ c. refused_result (number_of c)) f.1.0)

  solved : (before : List ℕ) (o : Result (Option ℕ) Refusal) (t : List ℤ) (after : List ℕ) (r : ℕ) → SolvesWith n ws before o t after → r ≡ (outcome_verdict o).result
      → (r ≡ 0) ⊎ (r ≡ 1) ⊎ (r ≡ 115) ⊎ (r ≡ 116) ⊎ (r ≡ 127)
  solved before (Ok None) t after r x e = inl e
  solved before (Ok (Some l)) t after r x e = inr (inl e)
  solved before (Err f) t after r x e = inr (inr (rw e (of_solving x.0)))

  times_tested : (ts : List ℤ) (given : Result (Option ℕ) Refusal) (v : Verdict) → TestsTimes n ws ts given → v ≡ times_verdict given → (v.result ≡ 0) ⊎ (v.result ≡ 2) ⊎ (v.result ≡ 116) ⊎ (v.result ≡ 127)
  times_tested ts (Ok None) v x e = inl (ap (λ (w : Verdict). w.result) e)
  times_tested ts (Ok (Some k)) v x e = inr (inl (ap (λ (w : Verdict). w.result) e))
  times_tested ts (Err f) v x e = rw e (inr (inr (of_network x)))

  chain_tested : (ks : List ℕ) (given : Result Bool Refusal) (v : Verdict) → TestsChain n ws ks given → v ≡ chain_verdict given → (v.result ≡ 1) ⊎ (v.result ≡ 3) ⊎ (v.result ≡ 116) ⊎ (v.result ≡ 127)
  chain_tested ks (Ok true) v x e = inl (ap (λ (w : Verdict). w.result) e)
  chain_tested ks (Ok false) v x e = inr (inl (ap (λ (w : Verdict). w.result) e))
  chain_tested ks (Err f) v x e = rw e (inr (inr (of_network x)))

pub network_results_are_these : NetworkResultsAreThese
network_results_are_these =
    record {
      solve = λ n ws before a after x. solved n ws before x.given.outcome x.given.times after a.result x.solves x.result;
      test_times = λ n ws ts v x. times_tested n ws ts x.given v x.tests x.answer;
      test_chain = λ n ws ks v x. chain_tested n ws ks x.given v x.tests x.answer;
    }
