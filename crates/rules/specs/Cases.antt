-- The rules at numbers: document 01's starred cases, 5, 6 and 9 with the gap of document 02's L1, and cases beside them that rule out wrong definitions.
use Rattle.std.specs.Prelude.{ℕ, ◌+◌, ◌≤◌, ◌<◌, [], ◌∷◌, ◌≡◌}
use Rattle.numbers.specs.Number.{bytes_of}
use Rattle.table.specs.Layout.{leg_count}
use Rattle.table.specs.Records.{leg_at}
use Rattle.table.specs.PlanA.{plan_with, offsets_a, plan_a, due_a, periods_a, full_a, offsets_b, due_b, slow_b}
use Rattle.shape.specs.Shape.{WellFormedTable}
use Rattle.overlap.specs.Meeting.{HoldsLink}
use Rattle.overlap.specs.Theorems.{in100000, in150000}
use Rattle.rules.specs.Times.{wire_time, hold_time}
use Rattle.rules.specs.Rules.{Window, Hop, Deadline, Overlap, RulesHold}
use Rattle.rules.specs.Places.{rule_at, PlaceHolds}
use Rattle.rules.specs.declared.Rule.TheVariants as rule

-- Document 01's starred cases 1 to 10. L1 changed 5, 6 and 9.
pub record StarredCases : Type 0 where
  pub case_1 : (wire_time 64 8 ≡ 576) × (wire_time 1522 8 ≡ 12240)
  pub case_2 : wire_time 64 800 ≡ 57600
  pub case_3 : Hop plan_a 1 × (Hop (plan_with (offsets_a 0 1175 0)) 1 → ⊥)
  pub case_4 : Deadline plan_a 1 × (Deadline (plan_with (due_a 2351 0)) 1 → ⊥)
  pub case_5 : Overlap (plan_with (offsets_a 0 1176 672)) 2 0 × (Overlap (plan_with (offsets_a 0 1176 671)) 2 0 → ⊥)
  pub case_6 : Overlap (plan_with (offsets_a 0 1176 49328)) 2 0 × (Overlap (plan_with (offsets_a 0 1176 49329)) 2 0 → ⊥)
  pub case_7 : Overlap (plan_with (offsets_a 0 1176 50000)) 2 0 → ⊥
  pub case_7_at : HoldsLink (in100000 0 672) 2 200000 × HoldsLink (in150000 50000 672) 1 200000
  pub case_8 : (o0 o2 : ℕ) → Overlap (plan_with (periods_a o0 o2)) 2 0 → ⊥
  pub case_9 : Window (plan_with (full_a 0)) 0 × (Window (plan_with (full_a 1)) 0 → ⊥)
  pub case_10 : (bytes_of 300 ≡ 0xAC ∷ 0x02 ∷ []) × (bytes_of 4294967295 ≡ 0xFF ∷ 0xFF ∷ 0xFF ∷ 0xFF ∷ 0x0F ∷ [])

-- Each rule with Plan B, whose two links differ, and so do the two frames on link 0: a window by the leg's own hold time, a hop by the previous leg's wire time and
-- propagation, a deadline by the last leg's own, an overlap by each leg's own hold time. Beside that: an offset past the period is not taken by its remainder; a
-- deadline is not for a leg that is not the last, and counts from the first leg's start; legs on different links may be sent at one time.
pub record MoreCases : Type 0 where
  pub window_1 : Window (plan_with (offsets_b 0 93280 672)) 1 × (Window (plan_with (offsets_b 0 93281 672)) 1 → ⊥)
  pub window_2 : Window (plan_with (offsets_b 0 1176 137664)) 2 × (Window (plan_with (offsets_b 0 1176 137665)) 2 → ⊥)
  pub window_past : Window (plan_with (offsets_a 100000 1176 0)) 0 → ⊥
  pub hop : Hop (plan_with (offsets_b 0 1176 672)) 1 × (Hop (plan_with (offsets_b 0 1175 672)) 1 → ⊥)
  pub deadline : Deadline (plan_with (due_b 7736)) 1 × (Deadline (plan_with (due_b 7735)) 1 → ⊥)
  pub overlap_first : Overlap (plan_with (offsets_b 0 1176 672)) 2 0 × (Overlap (plan_with (offsets_b 0 1176 671)) 2 0 → ⊥)
  pub overlap_second : Overlap (plan_with (offsets_b 0 1176 37664)) 2 0 × (Overlap (plan_with (offsets_b 0 1176 37665)) 2 0 → ⊥)
  pub not_last : Deadline (plan_with (due_a 1 0)) 0
  pub from_first : Deadline (plan_with (due_a 2352 600)) 1 × (Deadline (plan_with (due_a 2351 600)) 1 → ⊥)
  pub other_links : Overlap (plan_with (offsets_a 0 1176 1176)) 2 1

-- Document 02's L1: how long frames hold their link; and two slots end to end without the gap are violated, in Plan A, and in Plan B with unequal frames. There leg 0 is
-- on the wire for 576 ns and leg 2 for 12,240 ns (case 1). Leg 2 at 576 is sent just when leg 0 is through; at 37,760 its second frame is through at 37,760 + 150,000 +
-- 12,240 = 200,000, just when leg 0 is sent. With the gap of 96 ns both hold, but not with 95 (overlap_first, overlap_second).
pub record GapCases : Type 0 where
  pub held : (hold_time 64 8 ≡ 672) × (hold_time 1522 8 ≡ 12336)
  -- At the other rates, and a window at 10 Mb/s, where the gap is 9,600 ns.
  pub held_slower : (hold_time 64 80 ≡ 6720) × (hold_time 1522 80 ≡ 123360) × (hold_time 64 800 ≡ 67200) × (hold_time 1522 800 ≡ 1233600)
  pub window_slow : Window (plan_with (slow_b 32800)) 1 × (Window (plan_with (slow_b 32801)) 1 → ⊥)
  pub end_to_end_is : Overlap (plan_with (offsets_a 0 1176 576)) 2 0 → ⊥
  pub end_to_end_after : Overlap (plan_with (offsets_b 0 1176 576)) 2 0 → ⊥
  pub end_to_end_before : Overlap (plan_with (offsets_b 0 1176 37760)) 2 0 → ⊥

-- The places of a leg: the rule at each place, by its name and by what it demands. In each of the four plans the named leg breaks one rule, and only the place of
-- that rule does not hold.
pub record PlacesAtNumbers : Type 0 where
  pub names : (rule_at 0 ≡ rule.Window) × (rule_at 1 ≡ rule.Hop) × (rule_at 2 ≡ rule.Deadline) × ((b : ℕ) → rule_at (3 + b) ≡ rule.Overlap)
  pub window : (PlaceHolds (plan_with (full_a 1)) 0 0 → ⊥) × PlaceHolds (plan_with (full_a 1)) 0 1 × PlaceHolds (plan_with (full_a 1)) 0 2
  pub hop : (PlaceHolds (plan_with (offsets_a 0 1175 0)) 1 1 → ⊥) × PlaceHolds (plan_with (offsets_a 0 1175 0)) 1 0 × PlaceHolds (plan_with (offsets_a 0 1175 0)) 1 2
  pub deadline : (PlaceHolds (plan_with (due_a 2351 0)) 1 2 → ⊥) × PlaceHolds (plan_with (due_a 2351 0)) 1 0 × PlaceHolds (plan_with (due_a 2351 0)) 1 1
  pub overlap : (PlaceHolds (plan_with (offsets_a 0 1176 671)) 2 3 → ⊥) × PlaceHolds (plan_with (offsets_a 0 1176 671)) 2 4

-- All tables of these cases are well-formed, whatever their offsets: they are plans.
pub record CasesArePlans : Type 0 where
  pub offsets_a_is : (o0 o1 o2 : ℕ) → WellFormedTable (plan_with (offsets_a o0 o1 o2))
  pub due_a_is : (d later : ℕ) → 1 ≤ d → d ≤ 100000 → WellFormedTable (plan_with (due_a d later))
  pub periods_a_is : (o0 o2 : ℕ) → WellFormedTable (plan_with (periods_a o0 o2))
  pub full_a_is : (o0 : ℕ) → WellFormedTable (plan_with (full_a o0))
  pub offsets_b_is : (o0 o1 o2 : ℕ) → WellFormedTable (plan_with (offsets_b o0 o1 o2))
  pub due_b_is : (d : ℕ) → 1 ≤ d → d ≤ 100000 → WellFormedTable (plan_with (due_b d))
  pub slow_b_is : (o1 : ℕ) → WellFormedTable (plan_with (slow_b o1))

-- A well-formed plan that keeps every rule with two legs on one link: Plan A with leg 2 at 672.
pub record AcceptedPlanExists : Type 0 where
  pub shape : WellFormedTable (plan_with (offsets_a 0 1176 672))
  pub rules : RulesHold (plan_with (offsets_a 0 1176 672))
  pub inside : 2 < leg_count (plan_with (offsets_a 0 1176 672))
  pub same_link : (leg_at (plan_with (offsets_a 0 1176 672)) 0).link ≡ (leg_at (plan_with (offsets_a 0 1176 672)) 2).link
