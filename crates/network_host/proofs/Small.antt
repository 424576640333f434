-- The numbers of an answer are small. Assumes nothing.
use Prim.Native.Nat.{ℕ}
use mathlib.Core.Path.{ap}
use mathlib.Core.List.{List}
use mathlib.Core.Logic.{inl, inr}
use native.Mathlib.Omega.{arith}
use lib.IntN.{ℤ}
use Rattle.std.specs.Prelude.{Bool, true, false, Option, Some, None, Result, Ok, Err}
use Rattle.basics.specs.Cause.{number_of}
use Rattle.basics.specs.declared.Cause.{Cause}
use Rattle.basics.specs.declared.Refusal.{Refusal}
use Rattle.network.specs.Constraints.{network_refusals}
use Rattle.claims.specs.Claims.{TestsTimes, TestsChain}
use Rattle.solver.specs.Solving.{solve_refusals, SolvesWith}
use Rattle.network_host.specs.Steps.{Small, NumberSmall, ChainSmall}

module _ (n : ℕ) (ws : List ℤ) where
  refused_small : {k : Cause} {p : ℕ} → (network_refusals n ws).Fault k p → Small (number_of k) p
  refused_small (inl f) = record { number = omega (arith, ap number_of f.0); position = omega (arith, f.1) }
  refused_small (inr f) = record { number = omega (arith, ap number_of f.1.0); position = omega (arith, f.0.constraints, f.1.1.inside) }

  solve_refused_small : {room : ℕ} {k : Cause} {p : ℕ} → (solve_refusals n ws room).Fault k p → Small (number_of k) p
  solve_refused_small (inl f) = refused_small f
  solve_refused_small (inr f) = record { number = omega (arith, ap number_of f.1.0); position = omega (arith, f.1.1) }

  pub outcome_small : (before : List ℕ) (o : Result (Option ℕ) Refusal) (t : List ℤ) (after : List ℕ) → SolvesWith n ws before o t after → NumberSmall o
  outcome_small before (Ok None) t after x = omega arith
  outcome_small before (Ok (Some l)) t after x = omega (arith, x.1.short, x.0.0.size.events)
  outcome_small before (Err e) t after x = solve_refused_small x.0

  pub times_small : (ts : List ℤ) (r : Result (Option ℕ) Refusal) → TestsTimes n ws ts r → NumberSmall r
  times_small ts (Ok None) x = omega arith
  times_small ts (Ok (Some k)) x = omega (arith, x.0.size.constraints, x.1.inside)
  times_small ts (Err e) x = refused_small x

  pub chain_small : (ks : List ℕ) (r : Result Bool Refusal) → TestsChain n ws ks r → ChainSmall r
  chain_small ks (Ok true) x = omega arith
  chain_small ks (Ok false) x = omega arith
  chain_small ks (Err e) x = refused_small x
