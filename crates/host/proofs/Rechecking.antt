-- The refusals of a recheck of the table of a plan file are small. Assumes nothing.
use Rattle.recheck.specs.declared.Rechecked.{Rechecked}
use Rattle.std.specs.Prelude.{Result, Ok, Err}
use Rattle.basics.specs.Cause.{refused}
use Rattle.basics.specs.declared.Cause.{Cause}
use Rattle.basics.specs.declared.Cause.TheVariants as cause
use Rattle.basics.specs.declared.Refusal.{Refusal}
use Prim.Native.Nat.{ℕ}
use mathlib.Core.List.{List}
use mathlib.Core.Logic.{inl, inr}
use native.Mathlib.Omega.{arith}
use Rattle.shape.specs.OfTables.{OfTable}
use Rattle.shape.proofs.Refused.{of_table, shape_of_table}
use Rattle.recheck.specs.Rechecks.{recheck_refusals, Rechecks}
use Rattle.host.specs.Steps.{SmallTold, PlanRechecks}
use Rattle.host.proofs.Laws.{table_small}
use Rattle.host.proofs.Asking.{plan_small}

-- The numbers and positions of its refusals are those of a table.
recheck_of_table : (t : List ℕ) (m : ℕ) (k : Cause) (p : ℕ) → (recheck_refusals t m).Fault k p → OfTable k p
recheck_of_table t m k p (inl f) = shape_of_table t k p f
recheck_of_table t m k p (inr (s, x)) = of_table cause.NoLeg (omega arith) (λ b. omega (arith, b)) x.0 (omega (arith, x.1))

table_recheck_small : (leg : ℕ) (t : List ℕ) (g : Result Rechecked Refusal) → Rechecks t leg g → SmallTold g
table_recheck_small leg t (Ok x) h = tt
table_recheck_small leg t (Err e) h = table_small (recheck_of_table t leg e.cause e.at h)

pub recheck_small : (plan : List ℕ) (leg : ℕ) (g : Result Rechecked Refusal) → PlanRechecks plan leg g → SmallTold g
recheck_small plan leg = plan_small (Result Rechecked Refusal) refused (λ (t : List ℕ). Rechecks t leg) SmallTold (λ k p s. s) (table_recheck_small leg) plan
