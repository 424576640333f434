-- The rules at numbers with Plan C, where stream 1 has three legs, and streams 2 and 3 have one each.
use Rattle.std.specs.Prelude.{ℕ, ◌≤◌, ◌≡◌, ◌⊎◌}
use Rattle.table.specs.PlanC.{PlanCNumbers, plan_c, deadlines_c, offsets_c}
use Rattle.shape.specs.Shape.{WellFormedTable}
use Rattle.rules.specs.Rules.{Hop, Deadline, Overlap}
use Rattle.rules.specs.Reads.{Reads}

pub record CasesOfPlanC : Type 0 where
  -- Leg 1 is sent at 1,000 and is ready at 1,000 + 864 + 100 + 50 = 2,014: leg 2, in the middle of its route, has a hop too, and the precision is 50 ns.
  pub hop_middle : Hop (plan_c (offsets_c 2014 3128)) 2 × (Hop (plan_c (offsets_c 2013 3128)) 2 → ⊥)
  -- Leg 2 is ready at 2,014 + 864 + 200 + 50 = 3,128: the hop of leg 3 is from the previous leg, and not from the first.
  pub hop_last : Hop (plan_c (offsets_c 2014 3128)) 3 × (Hop (plan_c (offsets_c 2014 3127)) 3 → ⊥)
  -- Leg 3 is ready at 3,128 + 8,640 + 300 + 50 = 12,118, which is 11,118 after the offset of leg 1: the deadline and the octets are those of
  -- its own stream, and the deadline counts from that stream's first leg, neither from leg 0 nor from the previous leg.
  pub deadline_last : Deadline (plan_c (deadlines_c 11118 776)) 3 × (Deadline (plan_c (deadlines_c 11117 776)) 3 → ⊥)
  -- A leg in the middle of its route has no deadline.
  pub deadline_middle : Deadline (plan_c (deadlines_c 1 776)) 2
  -- The only leg of a stream has a deadline: leg 4 is ready 576 + 150 + 50 = 776 after its offset.
  pub deadline_only : Deadline (plan_c (deadlines_c 11118 776)) 4 × (Deadline (plan_c (deadlines_c 11118 775)) 4 → ⊥)
  -- Links that join the same nodes the other way, begin at one node, or end at one node are different links: legs on them may be sent at one time.
  pub other_way : Overlap (plan_c (offsets_c 2014 3128)) 1 0
  pub same_from : Overlap (plan_c (offsets_c 2014 3128)) 2 0
  pub same_to : Overlap (plan_c (offsets_c 2014 3128)) 4 1
  -- Legs 4 and 5 both hold link 4 at the instant 1,300: overlap is judged for any two legs, and not only for leg 0 with another.
  pub same_link : Overlap (plan_c (offsets_c 2014 3128)) 5 4 → ⊥

-- Which legs are read, and no others: leg 4 is a first leg, and its hop reads itself alone; the hop of leg 3 reads leg 2, and not the first leg of its route; its deadline
-- reads that first leg, leg 1; leg 2 is not the last, and its deadline reads itself alone, as the window of leg 3 does; place 7 of leg 5 reads leg 4, with which it shares a link.
pub record ReadsOfPlanC : Type 0 where
  pub hop_first : (b : ℕ) → Reads (plan_c (offsets_c 2014 3128)) 4 1 b → b ≡ 4
  pub hop_last : Reads (plan_c (offsets_c 2014 3128)) 3 1 2 × ((b : ℕ) → Reads (plan_c (offsets_c 2014 3128)) 3 1 b → (b ≡ 3) ⊎ (b ≡ 2))
  pub deadline_last : Reads (plan_c (offsets_c 2014 3128)) 3 2 1 × ((b : ℕ) → Reads (plan_c (offsets_c 2014 3128)) 3 2 b → (b ≡ 3) ⊎ (b ≡ 1))
  pub deadline_middle : (b : ℕ) → Reads (plan_c (offsets_c 2014 3128)) 2 2 b → b ≡ 2
  pub window : (b : ℕ) → Reads (plan_c (offsets_c 2014 3128)) 3 0 b → b ≡ 3
  pub overlap : Reads (plan_c (offsets_c 2014 3128)) 5 7 4 × ((b : ℕ) → Reads (plan_c (offsets_c 2014 3128)) 5 7 b → (b ≡ 5) ⊎ (b ≡ 4))

-- These tables are well-formed, whatever their offsets, with deadlines of 1 ns to the period: they are plans.
abbrev pub CasesOfPlanCArePlans : Type 0
CasesOfPlanCArePlans =
    (n : PlanCNumbers) → 1 ≤ n.deadline_1 → n.deadline_1 ≤ 20000 → 1 ≤ n.deadline_2 → n.deadline_2 ≤ 20000 → WellFormedTable (plan_c n)
