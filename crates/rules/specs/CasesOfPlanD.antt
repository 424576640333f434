-- The rules at numbers with Plan D, whose stream 1 does not fit into one period (document 02, L4).
use Rattle.std.specs.Prelude.{ℕ, ◌≤◌}
use Rattle.table.specs.PlanD.{plan_d, route_d, late_d}
use Rattle.shape.specs.Shape.{WellFormedTable}
use Rattle.rules.specs.Rules.{Window, Hop, Deadline, Overlap, RulesHold}

pub record CasesOfPlanD : Type 0 where
  -- Legs 1, 2 and 3 start at 0, 176 + 2,000 and 352 + 4,000, each just when the one before it is ready. Leg 3 is ready at 4,352 + 2,176 = 6,528, its deadline, which is
  -- more than three periods.
  pub accepted : WellFormedTable (plan_d (route_d 6528 0 1 2)) × RulesHold (plan_d (route_d 6528 0 1 2))
  -- One word one less, and the leg starts a period too soon: for the last leg, and for the one in the middle.
  pub hop_last : Hop (plan_d (route_d 6528 0 1 1)) 3 → ⊥
  pub hop_middle : Hop (plan_d (route_d 6528 0 0 2)) 2 → ⊥
  -- The deadline one less.
  pub deadline : Deadline (plan_d (route_d 6527 0 1 2)) 3 → ⊥
  -- A first leg may lie late too. The next leg's hop and the stream's deadline count from its start, and with the period of its own stream, not with that of leg 0, which
  -- comes before it in the table.
  pub first_late : WellFormedTable (plan_d (route_d 6528 1 2 3)) × RulesHold (plan_d (route_d 6528 1 2 3))
  pub first_late_hop : Hop (plan_d (route_d 6528 1 1 2)) 2 → ⊥
  pub first_late_deadline : Deadline (plan_d (route_d 6527 1 2 3)) 3 → ⊥
  -- The route as late as it may lie: its last word is 7.
  pub latest : WellFormedTable (plan_d (route_d 6528 5 6 7)) × RulesHold (plan_d (route_d 6528 5 6 7))
  -- A word changes nothing in window and overlap. Leg 0, alone in its stream, has 4,000 ns and holds its link for 672; at 672 it is sent just when leg 1 and the gap after
  -- it end.
  pub window : (p : ℕ) → p ≤ 7 → Window (plan_d (late_d 3328 p)) 0 × (Window (plan_d (late_d 3329 p)) 0 → ⊥)
  pub overlap : (p : ℕ) → p ≤ 7 → Overlap (plan_d (late_d 672 p)) 1 0 × (Overlap (plan_d (late_d 671 p)) 1 0 → ⊥)
