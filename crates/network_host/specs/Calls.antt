-- What the calls for C of temporal networks promise: the answer in numbers, and every lent word.
use Rattle.std.specs.Prelude.{ℕ, ◌+◌, ◌≡◌, List, ℤ, Bool, true, false, Option, Some, None, Result, Ok, Err}
use Rattle.basics.specs.Cause.{number_of}
use Rattle.basics.specs.declared.Refusal.{Refusal}
use Rattle.claims.specs.Claims.{TestsTimes, TestsChain}
use Rattle.solver.specs.Solving.{Solves}
use Rattle.solver.specs.declared.Solved.{Solved}
use Rattle.network_host.specs.declared.NetworkAnswer.{NetworkAnswer}
use Rattle.network_host.specs.declared.Verdict.{Verdict}

-- 100 plus the refusal number.
abbrev pub refused_result : ℕ → ℕ
refused_result k = 100 + k

-- The verdict with result r, and n beside it.
abbrev pub verdict : ℕ → ℕ → Verdict
verdict r n = record { result = r; number = n }

-- 0, where times are given or kept; r, with a number, where something else was found; or a refusal, with its position.
abbrev pub found_verdict : ℕ → Result (Option ℕ) Refusal → Verdict
found_verdict r (Ok None) = verdict 0 0
found_verdict r (Ok (Some k)) = verdict r k
found_verdict r (Err e) = verdict (refused_result (number_of e.cause)) e.at

-- Solving: 0 times; 1 a chain, with its length; or a refusal, with its position.
abbrev pub outcome_verdict : Result (Option ℕ) Refusal → Verdict
outcome_verdict o = found_verdict 1 o

-- The test of times: 0 kept; 2 not, with the lowest constraint that is not kept; or a refusal, with its position.
abbrev pub times_verdict : Result (Option ℕ) Refusal → Verdict
times_verdict t = found_verdict 2 t

-- The test of a chain: 1 a chain; 3 none; or a refusal, with its position.
abbrev pub chain_verdict : Result Bool Refusal → Verdict
chain_verdict (Ok true) = verdict 1 0
chain_verdict (Ok false) = verdict 3 0
chain_verdict (Err e) = verdict (refused_result (number_of e.cause)) e.at

-- The calls: given is an answer that solving, or the test, allows, and C gets it in numbers.
pub record HostSolves (n : ℕ) (ws : List ℤ) (before : List ℕ) (a : NetworkAnswer) (after : List ℕ) : Type 0 where
  pub given : Solved
  pub solves : Solves n ws before given after
  pub result : a.result ≡ (outcome_verdict given.outcome).result
  pub number : a.number ≡ (outcome_verdict given.outcome).number
  pub times : a.times ≡ given.times

pub record HostTestsTimes (n : ℕ) (ws ts : List ℤ) (v : Verdict) : Type 0 where
  pub given : Result (Option ℕ) Refusal
  pub tests : TestsTimes n ws ts given
  pub answer : v ≡ times_verdict given

pub record HostTestsChain (n : ℕ) (ws : List ℤ) (ks : List ℕ) (v : Verdict) : Type 0 where
  pub given : Result Bool Refusal
  pub tests : TestsChain n ws ks given
  pub answer : v ≡ chain_verdict given
