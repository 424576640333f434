-- What the call for C promises that tells the nearest offsets of a leg with which a place of it holds.
use Rattle.std.specs.Prelude.{ℕ, List, Result, Ok, Err, Option, Some, None}
use Rattle.basics.specs.Cause.{number_of, refused}
use Rattle.basics.specs.declared.Refusal.{Refusal}
use Rattle.margins.specs.Nearest.{Nears}
use Rattle.margins.specs.declared.Nearest.{Nearest}
use Rattle.host.specs.declared.near_offsets.NearestNumbers.{NearestNumbers}
use Rattle.host.specs.Answers.{refused_result}
use Rattle.host.specs.OfPlans.{OfPlan, InNumbers}

-- 1 where there is such an offset, and 0 where there is none.
abbrev pub there_is : Option ℕ → ℕ
there_is (Some x) = 1
there_is None = 0

-- The offset; otherwise 0.
abbrev pub offset_in : Option ℕ → ℕ
offset_in (Some x) = x
offset_in None = 0

-- 0, with the offset below the leg's own and the one above.
abbrev pub offset_numbers : Nearest → NearestNumbers
offset_numbers n = record {
  result = 0;
  position = 0;
  lower = there_is n.below;
  below = offset_in n.below;
  higher = there_is n.above;
  above = offset_in n.above;
}

-- The same, or refused: 100 plus the number, and the position.
abbrev pub nearest_numbers : Result Nearest Refusal → NearestNumbers
nearest_numbers (Ok n) = offset_numbers n
nearest_numbers (Err e) = record { result = refused_result (number_of e.cause); position = e.at; lower = 0; below = 0; higher = 0; above = 0 }

-- The nearest offsets at a place of the plan. The refusals in their order: 12, 13, 2 and 14 of the plan file, then 4 to 7 of its table, then 9.
abbrev pub PlanNears : List ℕ → ℕ → ℕ → Result Nearest Refusal → Type 0
PlanNears plan leg place = OfPlan (Result Nearest Refusal) refused (λ (t : List ℕ). Nears t leg place) plan

-- THE NEAREST OFFSETS, in numbers.
abbrev pub HostNears : List ℕ → ℕ → ℕ → NearestNumbers → Type 0
HostNears plan leg place = InNumbers (Result Nearest Refusal) NearestNumbers (PlanNears plan leg place) nearest_numbers
