-- A plan: a table with what a well-formed one guarantees, lent. Its value is the list of its words.
use Rattle.std.specs.Prelude.{ℕ, ◌≡◌, List, Result, Ok, Err}
use Rattle.basics.specs.declared.Refusal.{Refusal}
use Rattle.shape.specs.Shape.{WellFormedTable, ShapeFault}
use Rattle.shape.specs.declared.plan.Plan.{Plan}

-- What comes of judging words: they are a plan, or the first refusal is due.
abbrev pub PlanTold : List ℕ → Result Plan Refusal → Type 0
PlanTold t (Ok p) = WellFormedTable t × (p ≡ t)
PlanTold t (Err e) = ShapeFault t e.cause e.at

-- Words have one answer.
abbrev pub PlanOneAnswer : Type 0
PlanOneAnswer = (t : List ℕ) (r r' : Result Plan Refusal) → PlanTold t r → PlanTold t r' → r ≡ r'
