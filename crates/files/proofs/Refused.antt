-- With which numbers a plan file and a saved cursor are refused: each cause has its own. Assumes nothing.
use Prim.Native.Nat.{ℕ, ◌≤◌}
use mathlib.Core.Path.{◌≡◌, ap}
use mathlib.Core.List.{List}
use mathlib.Core.Logic.{◌⊎◌, inl, inr}
use native.Mathlib.Omega.{arith}
use Rattle.basics.specs.Cause.{number_of, refused}
use Rattle.basics.specs.declared.Cause.{Cause}
use Rattle.numbers.specs.Number.{NoNumber}
use Rattle.table.specs.declared.Edition.{Edition}
use Rattle.files.specs.Plan.{PlanFaultIn}
use Rattle.files.specs.Cursors.{ReadsCursor}

-- 12 or 13.
no_number_refused : (s : List ℕ) (p : ℕ) (k : Cause) → NoNumber s p k → (12 ≤ number_of k) × (number_of k ≤ 14)
no_number_refused s p k (inl x) = let e = ap number_of x.0 in (omega arith, omega arith)
no_number_refused s p k (inr x) = let e = ap number_of x.0 in (omega arith, omega arith)

-- 2, or 12 to 14.
pub plan_refused : {e : Edition} (s : List ℕ) (k : Cause) (p : ℕ) → PlanFaultIn e s k p → (number_of k ≡ 2) ⊎ ((12 ≤ number_of k) × (number_of k ≤ 14))
plan_refused s k p (inl c) = inr (no_number_refused s p k c.no_number)
plan_refused s k p (inr (inl x)) = inl (ap number_of x.0)
plan_refused s k p (inr (inr x)) = let e = ap number_of x.0 in inr (omega arith, omega arith)

-- 12 to 14.
pub cursor_refused : (s : List ℕ) (k : Cause) (p : ℕ) → ReadsCursor s (refused k p) → (12 ≤ number_of k) × (number_of k ≤ 14)
cursor_refused s k p (inl c) = no_number_refused s p k c.no_number
cursor_refused s k p (inr x) = let e = ap number_of x.0 in (omega arith, omega arith)
