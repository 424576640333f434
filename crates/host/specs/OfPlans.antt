-- What the calls for C promise that ask something of the plan of a plan file, and write nothing. plan is the plan file; G is what is told of a table, and A what C gets.
use Rattle.std.specs.Prelude.{ℕ, ◌≡◌, List, ◌⊎◌}
use Rattle.basics.specs.declared.Cause.{Cause}
use Rattle.table.specs.Layout.{Sized}
use Rattle.files.specs.Reading.{IsFile}
use Rattle.files.specs.Plan.{PlanFault}

-- Refused for a fault of the plan file, with its number and position.
pub record UnreadPlan (G : Type 0) (refused : Cause → ℕ → G) (plan : List ℕ) (g : G) : Type 0 where
  pub cause : Cause
  pub at : ℕ
  pub fault : PlanFault plan cause at
  pub is : g ≡ refused cause at

-- The plan reader refuses the file; or it is the file of a table, and g is told of this table.
abbrev pub OfPlan : (G : Type 0) → (Cause → ℕ → G) → (List ℕ → G → Type 0) → List ℕ → G → Type 0
OfPlan G refused Told plan g = UnreadPlan G refused plan g ⊎ ((t : List ℕ) × IsFile Sized plan t × Told t g)

-- C gets in numbers what is told.
pub record InNumbers (G A : Type 0) (Told : G → Type 0) (numbers : G → A) (a : A) : Type 0 where
  pub given : G
  pub told : Told given
  pub answer : a ≡ numbers given
