-- What the call for C promises that tells the numbers of the rule at a place of the plan of a plan file.
use Rattle.std.specs.Prelude.{ℕ, List, Result, Ok, Err}
use Rattle.basics.specs.Cause.{number_of, refused}
use Rattle.basics.specs.declared.Cause.{Cause}
use Rattle.basics.specs.declared.Refusal.{Refusal}
use Rattle.rules.specs.Places.{rule_at}
use Rattle.rules.specs.declared.Rule.{Rule}
use Rattle.margins.specs.Margins.{Margins}
use Rattle.margins.specs.declared.Sides.{Sides}
use Rattle.margins.specs.declared.Turns.{Turns}
use Rattle.margins.specs.declared.Margin.{Margin}
use Rattle.margins.specs.declared.Margin.TheVariants as margin
use Rattle.margins.specs.declared.Spare.{Spare}
use Rattle.margins.specs.declared.Spare.TheVariants as spare
use Rattle.margins.specs.declared.At.{At}
use Rattle.host.specs.declared.place_margin.MarginNumbers.{MarginNumbers}
use Rattle.host.specs.Answers.{refused_result, rule_result}
use Rattle.host.specs.OfPlans.{OfPlan, InNumbers}

-- 1 where the rule asks something at the place, and 0 where it does not.
abbrev pub asked_in : Margin → ℕ
asked_in margin.Free = 0
asked_in (margin.Sides s) = 1
asked_in (margin.Turns s) = 1

-- The two sides of a window, a hop or a deadline, and the turns of an overlap; otherwise 0.
abbrev pub sides_in : Margin → Sides
sides_in margin.Free = record { needs = 0; has = 0 }
sides_in (margin.Sides s) = s
sides_in (margin.Turns s) = record { needs = 0; has = 0 }

abbrev pub turns_in : Margin → Turns
turns_in margin.Free = record { divisor = 0; after = 0; hold = 0; other = 0 }
turns_in (margin.Sides s) = record { divisor = 0; after = 0; hold = 0; other = 0 }
turns_in (margin.Turns s) = s

-- How much is left, and how much is lacking; otherwise 0.
abbrev pub left_in : Spare → ℕ
left_in spare.Free = 0
left_in (spare.Left n) = n
left_in (spare.Lacks n) = 0

abbrev pub lacks_in : Spare → ℕ
lacks_in spare.Free = 0
lacks_in (spare.Left n) = 0
lacks_in (spare.Lacks n) = n

-- The result: 0 where the place holds, and otherwise 2 to 5 by its rule.
abbrev pub place_result : Rule → Spare → ℕ
place_result x spare.Free = 0
place_result x (spare.Left n) = 0
place_result x (spare.Lacks n) = rule_result x

-- The numbers of the rule x and what is to spare.
abbrev pub told_numbers : Rule → Margin → Spare → MarginNumbers
told_numbers x m s = record {
  result = place_result x s;
  position = 0;
  rule = rule_result x;
  asked = asked_in m;
  left = left_in s;
  lacks = lacks_in s;
  needs = (sides_in m).needs;
  has = (sides_in m).has;
  divisor = (turns_in m).divisor;
  after = (turns_in m).after;
  hold = (turns_in m).hold;
  other = (turns_in m).other;
}

-- Refused: 100 plus the number, and the position.
abbrev pub untold_numbers : Cause → ℕ → MarginNumbers
untold_numbers k p = record {
  result = refused_result (number_of k);
  position = p;
  rule = 0;
  asked = 0;
  left = 0;
  lacks = 0;
  needs = 0;
  has = 0;
  divisor = 0;
  after = 0;
  hold = 0;
  other = 0;
}

-- What is told of a place of the rule x.
abbrev pub margin_numbers : Rule → Result At Refusal → MarginNumbers
margin_numbers x (Ok a) = told_numbers x a.margin a.spare
margin_numbers x (Err e) = untold_numbers e.cause e.at

-- The margin at a place of the plan. The refusals in their order: 12, 13, 2 and 14 of the plan file, then 4 to 7 of its table, then 9.
abbrev pub PlanMargins : List ℕ → ℕ → ℕ → Result At Refusal → Type 0
PlanMargins plan leg place = OfPlan (Result At Refusal) refused (λ (t : List ℕ). Margins t leg place) plan

-- A MARGIN, in numbers.
abbrev pub HostMargins : List ℕ → ℕ → ℕ → MarginNumbers → Type 0
HostMargins plan leg place = InNumbers (Result At Refusal) MarginNumbers (PlanMargins plan leg place) (margin_numbers (rule_at place))
