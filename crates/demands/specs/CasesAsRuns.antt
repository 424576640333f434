-- Document 01's cases 11 to 13, 12 with the gap of document 02's L1, as runs: Plan A, whose leg 2 meets leg 0, and what becomes of the check when a leg is moved; and two runs more.
use Rattle.std.specs.Prelude.{List, ◌∷◌, Ok}
use Rattle.table.specs.Records.{moved, move_to}
use Rattle.table.specs.PlanA.{plan_a}
use Rattle.rules.specs.declared.Rule.TheVariants as rule
use Rattle.checker.specs.declared.SliceAnswer.TheVariants.{Violated, NothingViolated, Paused}
use Rattle.demands.specs.Runs.{Call, start, slice, move_leg, Run}
use Rattle.demands.specs.AtNumbers.{good, at, begun}

-- Budgets of 5: paused at (1,2), paused at (2,3),
abbrev pub paused_twice : List Call
paused_twice = slice (at 0 1 2) 5 (Paused (at 0 2 3) 5) ∷ begun

-- violated at (2,3) with 1 step.
abbrev pub case11 : List Call
case11 = slice (at 0 2 3) 5 (Violated (at 0 2 3) 1 rule.Overlap) ∷ paused_twice

-- Then move leg 2 to 672: cursor (2,0), revision 1; budget 5 accepts with 5 steps.
abbrev pub case12 : List Call
case12 = slice (at 1 2 0) 5 (NothingViolated (at 1 3 0) 5) ∷ move_leg (at 0 2 3) (move_to 2 672 0) (Ok (at 1 2 0)) ∷ case11

-- Instead move leg 0 to 600 when paused at (2,3): cursor (0,0), next verdict violated (1,1).
abbrev pub case13 : List Call
case13 = slice (at 1 0 0) 5 (Violated (at 1 1 1) 5 rule.Hop) ∷ move_leg (at 0 2 3) (move_to 0 600 0) (Ok (at 1 0 0)) ∷ paused_twice

pub record CasesAsRuns : Type 0 where
  pub case_11 : Run case11 plan_a
  pub case_12 : Run case12 (moved plan_a (move_to 2 672 0))
  pub case_13 : Run case13 (moved plan_a (move_to 0 600 0))
  -- A move of the leg that the cursor stands at pulls it back to that leg's first place.
  pub own_leg : Run (move_leg (at 0 1 2) (move_to 1 1200 0) (Ok (at 1 1 0)) ∷ begun) (moved good (move_to 1 1200 0))
  -- A second start: the check begins again, at the revision that the table has by then.
  pub started_again : Run (slice (at 1 0 0) 12 (NothingViolated (at 1 3 0) 12) ∷ start (Ok (at 1 0 0)) ∷ case12) (moved plan_a (move_to 2 672 0))
