-- Plan C: N, S and G all differ, a stream has three legs and the others one, and links join the same nodes the other way, or begin or end at one node.
use Rattle.std.specs.Prelude.{ℕ, List, [], ◌∷◌}

-- The numbers that the cases vary: the deadlines of streams 1 and 2, and the offsets of legs 2 and 3.
pub record PlanCNumbers : Type 0 where
  pub deadline_1 : ℕ
  pub deadline_2 : ℕ
  pub offset_2 : ℕ
  pub offset_3 : ℕ

-- Five links, four streams, six legs: leg 0 is that of stream 0, on link 3; legs 1, 2 and 3 are those of stream 1, on links 0, 1 and 2; legs 4 and 5 are those
-- of streams 2 and 3, both on link 4. The precision is 50 ns.
abbrev pub plan_c : PlanCNumbers → List ℕ
plan_c n =
    0 ∷ 5 ∷ 4 ∷ 6 ∷ 50 ∷
    1 ∷ 2 ∷ 8 ∷ 100 ∷
    2 ∷ 3 ∷ 8 ∷ 200 ∷
    3 ∷ 4 ∷ 80 ∷ 300 ∷
    2 ∷ 1 ∷ 8 ∷ 400 ∷
    5 ∷ 2 ∷ 8 ∷ 150 ∷
    10000 ∷ 5000 ∷ 64 ∷ 0 ∷ 1 ∷
    20000 ∷ n.deadline_1 ∷ 100 ∷ 1 ∷ 3 ∷
    20000 ∷ n.deadline_2 ∷ 64 ∷ 4 ∷ 1 ∷
    20000 ∷ 5000 ∷ 64 ∷ 5 ∷ 1 ∷
    0 ∷ 3 ∷ 1500 ∷ 0 ∷
    1 ∷ 0 ∷ 1000 ∷ 0 ∷
    1 ∷ 1 ∷ n.offset_2 ∷ 0 ∷
    1 ∷ 2 ∷ n.offset_3 ∷ 0 ∷
    2 ∷ 4 ∷ 1200 ∷ 0 ∷
    3 ∷ 4 ∷ 1300 ∷ 0 ∷ []

-- Plan C with these deadlines of streams 1 and 2, and with legs 2 and 3 at these offsets.
abbrev pub deadlines_c : ℕ → ℕ → PlanCNumbers
deadlines_c d1 d2 = record { deadline_1 = d1; deadline_2 = d2; offset_2 = 2014; offset_3 = 3128 }

abbrev pub offsets_c : ℕ → ℕ → PlanCNumbers
offsets_c o2 o3 = record { deadline_1 = 11118; deadline_2 = 776; offset_2 = o2; offset_3 = o3 }
