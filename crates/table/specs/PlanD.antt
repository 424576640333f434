-- Plan D: a route of three links that does not fit into one period (document 02, L4). Its frames of 64 octets are on the wire for 576 ns and hold their link for 672.
use Rattle.std.specs.Prelude.{ℕ, List, [], ◌∷◌}

-- The numbers that the cases vary: the deadline of stream 1, the offset of leg 0, and the period words of the four legs.
pub record PlanDNumbers : Type 0 where
  pub deadline_1 : ℕ
  pub offset_0 : ℕ
  pub periods_0 : ℕ
  pub periods_1 : ℕ
  pub periods_2 : ℕ
  pub periods_3 : ℕ

-- Three links, two streams, four legs: leg 0 is that of stream 0, on link 0, and is repeated every 4,000 ns; legs 1, 2 and 3 are those of stream 1, on links 0, 1 and 2,
-- and are repeated every 2,000 ns. A frame is at the next node 576 + 1,500 + 100 = 2,176 ns after its start, which is 176 ns past a period.
abbrev pub plan_d : PlanDNumbers → List ℕ
plan_d n =
    0 ∷ 3 ∷ 2 ∷ 4 ∷ 100 ∷
    1 ∷ 2 ∷ 8 ∷ 1500 ∷
    2 ∷ 3 ∷ 8 ∷ 1500 ∷
    3 ∷ 4 ∷ 8 ∷ 1500 ∷
    4000 ∷ 4000 ∷ 64 ∷ 0 ∷ 1 ∷
    2000 ∷ n.deadline_1 ∷ 64 ∷ 1 ∷ 3 ∷
    0 ∷ 0 ∷ n.offset_0 ∷ n.periods_0 ∷
    1 ∷ 0 ∷ 0 ∷ n.periods_1 ∷
    1 ∷ 1 ∷ 176 ∷ n.periods_2 ∷
    1 ∷ 2 ∷ 352 ∷ n.periods_3 ∷ []

-- Plan D with this deadline of stream 1, and with these period words of its legs 1, 2 and 3; leg 0 is sent just when leg 1 and the gap after it end.
abbrev pub route_d : (deadline_1 periods_1 periods_2 periods_3 : ℕ) → PlanDNumbers
route_d d p1 p2 p3 = record { deadline_1 = d; offset_0 = 672; periods_0 = 0; periods_1 = p1; periods_2 = p2; periods_3 = p3 }

-- Plan D with leg 0 at this offset and so many periods late.
abbrev pub late_d : (offset_0 periods_0 : ℕ) → PlanDNumbers
late_d o0 p0 = record { deadline_1 = 6528; offset_0 = o0; periods_0 = p0; periods_1 = 0; periods_2 = 1; periods_3 = 2 }
