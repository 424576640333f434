-- The refusals of what is told of first meetings, margins and nearest offsets are small. Assumes nothing.
use Rattle.margins.specs.declared.At.{At}
use Rattle.std.specs.Prelude.{Result, Ok, Err, Option}
use Rattle.basics.specs.Cause.{refused}
use Rattle.basics.specs.declared.Cause.{Cause}
use Rattle.basics.specs.declared.Cause.TheVariants as cause
use Rattle.basics.specs.declared.Refusal.{Refusal}
use Prim.Native.Nat.{ℕ}
use mathlib.Core.Path.{◌≡◌, ◌∙◌, ap}
use mathlib.Core.List.{List}
use mathlib.Core.Logic.{inl, inr}
use native.Mathlib.Omega.{arith}
use Rattle.shape.specs.OfTables.{OfTable}
use Rattle.shape.proofs.Refused.{of_table, shape_of_table}
use Rattle.rules.specs.Places.{asked_at, rule_of, rule_at}
use Rattle.rules.specs.declared.Rule.{Rule}
use Rattle.repeats.specs.declared.Meeting.{Meeting}
use Rattle.meeting.specs.Meets.{meeting_refusals, Meets}
use Rattle.margins.specs.Asking.{ask_refusals}
use Rattle.margins.specs.Margins.{Margins}
use Rattle.margins.specs.Nearest.{Nears}
use Rattle.margins.specs.declared.Nearest.{Nearest}
use Rattle.host.specs.declared.place_margin.MarginNumbers.{MarginNumbers}
use Rattle.host.specs.Meetings.{PlanMeets}
use Rattle.host.specs.Margins.{margin_numbers, PlanMargins, HostMargins}
use Rattle.host.specs.NearOffsets.{PlanNears}
use Rattle.host.specs.Steps.{SmallTold}
use Rattle.host.proofs.Laws.{table_small}
use Rattle.host.proofs.Asking.{plan_small}

-- The refusals of a place, and of two legs, are those of a table.
ask_of_table : (t : List ℕ) (a p : ℕ) (k : Cause) (q : ℕ) → (ask_refusals t a p).Fault k q → OfTable k q
ask_of_table t a p k q (inl f) = shape_of_table t k q f
ask_of_table t a p k q (inr (s, x)) = of_table cause.NoPlace (omega arith) (λ b. omega (arith, b)) x.0 (omega (arith, x.1))

meet_of_table : (t : List ℕ) (a b : ℕ) (k : Cause) (p : ℕ) → (meeting_refusals t a b).Fault k p → OfTable k p
meet_of_table t a b k p (inl f) = shape_of_table t k p f
meet_of_table t a b k p (inr (s, inl x)) = of_table cause.NoLeg (omega arith) (λ b. omega (arith, b)) x.0 (omega (arith, x.1))
meet_of_table t a b k p (inr (s, inr (i, x))) = of_table cause.NoLeg (omega arith) (λ b. omega (arith, b)) x.0 (omega (arith, x.1))

-- Meetings.
table_meets_small : (leg other : ℕ) (t : List ℕ) (g : Result (Option Meeting) Refusal) → Meets t leg other g → SmallTold g
table_meets_small leg other t (Ok m) h = tt
table_meets_small leg other t (Err e) h = table_small (meet_of_table t leg other e.cause e.at h)

pub meeting_small : (plan : List ℕ) (leg other : ℕ) (g : Result (Option Meeting) Refusal) → PlanMeets plan leg other g → SmallTold g
meeting_small plan leg other = plan_small (Result (Option Meeting) Refusal) refused (λ (t : List ℕ). Meets t leg other) SmallTold (λ k p s. s) (table_meets_small leg other) plan

-- Margins.
table_margin_small : (leg place : ℕ) (t : List ℕ) (g : Result At Refusal) → Margins t leg place g → SmallTold g
table_margin_small leg place t (Ok r) h = tt
table_margin_small leg place t (Err e) h = table_small (ask_of_table t leg place e.cause e.at h)

pub margin_small : (plan : List ℕ) (leg place : ℕ) (g : Result At Refusal) → PlanMargins plan leg place g → SmallTold g
margin_small plan leg place = plan_small (Result At Refusal) refused (λ (t : List ℕ). Margins t leg place) SmallTold (λ k p s. s) (table_margin_small leg place) plan

-- The rule of what is asked at a place is that of the place.
pub margin_given : {plan : List ℕ} {leg place : ℕ} {x : Rule} {g : Result At Refusal} {a : MarginNumbers} → x ≡ rule_of (asked_at place) → PlanMargins plan leg place g → a ≡ margin_numbers x g
    → HostMargins plan leg place a
unfolding rule_at
margin_given {g = g} e h f = record { given = g; told = h; answer = f ∙ ap (λ (y : Rule). margin_numbers y g) e }

-- Nearest offsets.
table_nearest_small : (leg place : ℕ) (t : List ℕ) (g : Result Nearest Refusal) → Nears t leg place g → SmallTold g
table_nearest_small leg place t (Ok n) h = tt
table_nearest_small leg place t (Err e) h = table_small (ask_of_table t leg place e.cause e.at h)

pub nearest_small : (plan : List ℕ) (leg place : ℕ) (g : Result Nearest Refusal) → PlanNears plan leg place g → SmallTold g
nearest_small plan leg place = plan_small (Result Nearest Refusal) refused (λ (t : List ℕ). Nears t leg place) SmallTold (λ k p s. s) (table_nearest_small leg place) plan
