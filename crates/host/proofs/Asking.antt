-- What is told of the table of a plan file is one, and its refusals are small, where that is so of every table. Assumes nothing.
use Rattle.basics.specs.Cause.{number_of}
use Rattle.basics.specs.declared.Cause.{Cause}
use Prim.Native.Nat.{ℕ, ◌≤◌}
use mathlib.Core.Path.{◌≡◌, ◌∙◌, sym, ap, subst}
use mathlib.Core.List.{List}
use mathlib.Core.Logic.{◌⊎◌, inl, inr}
use native.Mathlib.Omega.{arith}
use Rattle.table.specs.Layout.{Sized}
use Rattle.files.specs.Reading.{IsFile}
use Rattle.files.specs.Plan.{PlanFault}
use Rattle.files.proofs.OneAnswer.{plan_fault_one, file_no_fault, same_file}
use Rattle.files.proofs.Refused.{plan_refused}
use Rattle.host.specs.OfPlans.{OfPlan, InNumbers}
use Rattle.host.specs.ExplainTheorems.{RefusedBy}
use Rattle.host.specs.Steps.{Small}
use Rattle.host.proofs.Laws.{plan_fault_small}

-- The refusals of a plan file.
of_file : (n : ℕ) (k : Cause) → (number_of k ≡ 2) ⊎ ((12 ≤ number_of k) × (number_of k ≤ 14)) → RefusedBy n (number_of k)
of_file n k (inl x) = inl x
of_file n k (inr x) = inr (inr (inl (omega (arith, x.0), omega (arith, x.1))))

module _ (G : Type 0) (refused : Cause → ℕ → G) (Told : List ℕ → G → Type 0) where
  -- What is told is one.
  same_refusal : (s : List ℕ) (k : Cause) (p : ℕ) (l : Cause) (q : ℕ) → PlanFault s k p → PlanFault s l q → refused k p ≡ refused l q
  same_refusal s k p l q f g = let e = plan_fault_one s k p l q f g in ap (λ (i : Cause). refused i p) e.0 ∙ ap (refused l) e.1

  plan_one : ((t : List ℕ) (g h : G) → Told t g → Told t h → g ≡ h) → (s : List ℕ) (g h : G) → OfPlan G refused Told s g → OfPlan G refused Told s h → g ≡ h
  plan_one one s g h (inl u) (inl v) = u.is ∙ same_refusal s u.cause u.at v.cause v.at u.fault v.fault ∙ sym v.is
  plan_one one s g h (inl u) (inr v) = absurd (file_no_fault v.1 u.fault)
  plan_one one s g h (inr u) (inl v) = absurd (file_no_fault u.1 v.fault)
  plan_one one s g h (inr (t, f, u)) (inr (o, e, v)) = one t g h u (subst (λ (k : List ℕ). Told k h) (same_file e f) v)

  pub numbers_one : (A : Type 0) (numbers : G → A) → ((t : List ℕ) (g h : G) → Told t g → Told t h → g ≡ h) → (s : List ℕ) (a b : A)
      → InNumbers G A (OfPlan G refused Told s) numbers a → InNumbers G A (OfPlan G refused Told s) numbers b → a ≡ b
  numbers_one A numbers one s a b u v = u.answer ∙ ap numbers (plan_one one s u.given v.given u.told v.told) ∙ sym v.answer

  -- Of the table that the file has.
  pub of_the_table : (s t : List ℕ) (g : G) → IsFile Sized s t → OfPlan G refused Told s g → Told t g
  of_the_table s t g f (inl u) = absurd (file_no_fault f u.fault)
  of_the_table s t g f (inr (o, e, x)) = subst (λ (k : List ℕ). Told k g) (same_file e f) x

  -- Its refusals are those of the plan file or of a table of the right size, and are small where these are.
  pub plan_small : (P : G → Type 0) → ((k : Cause) (p : ℕ) → Small k p → P (refused k p)) → ((t : List ℕ) (g : G) → Told t g → P g) → (s : List ℕ) (g : G) → OfPlan G refused Told s g → P g
  plan_small P file table s g (inl u) = subst P (sym u.is) (file u.cause u.at (plan_fault_small s u.cause u.at u.fault))
  plan_small P file table s g (inr (t, f, x)) = table t g x

  pub plan_results : (n : ℕ) (P : G → Type 0) → ((k : Cause) (p : ℕ) → RefusedBy n (number_of k) → P (refused k p)) → ((t : List ℕ) (g : G) → Sized t → Told t g → P g) → (s : List ℕ) (g : G)
      → OfPlan G refused Told s g → P g
  plan_results n P file table s g (inl u) = subst P (sym u.is) (file u.cause u.at (of_file n u.cause (plan_refused s u.cause u.at u.fault)))
  plan_results n P file table s g (inr (t, f, x)) = table t g f.complete x
