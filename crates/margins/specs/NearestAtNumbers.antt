-- Nearest offsets at numbers, of Plan A, Plan B and their neighbours, and of Plan D.
use Rattle.std.specs.Prelude.{ℕ, [], Option, Some, None, Ok}
use Rattle.basics.specs.Cause.{refused}
use Rattle.basics.specs.declared.Cause.TheVariants as cause
use Rattle.table.specs.PlanA.{PlanNumbers, plan_with, plan_a, offsets_a, due_a, periods_a, offsets_b}
use Rattle.table.specs.PlanD.{plan_d, route_d}
use Rattle.margins.specs.Nearest.{Nears}
use Rattle.margins.specs.declared.Nearest.{Nearest}

abbrev pub nearest : Option ℕ → Option ℕ → Nearest
nearest below above = record { below = below; above = above }

-- Plan A with leg 2 at 40, whose stream has no other leg, and with a deadline of 1,175 ns: 1 ns too short.
abbrev pub short_due : PlanNumbers
short_due = record { revision = 0; rate_1 = 8; propagation_1 = 500; period_0 = 100000; deadline_0 = 2352; period_1 = 150000; deadline_1 = 1175; octets_1 = 64; offset_0 = 0; offset_1 = 1176; offset_2 = 40 }

pub record NearestAtNumbers : Type 0 where
  -- Leg 2 of Plan A begins with leg 0: it may begin when that one has ended, and not below 0.
  pub overlap : Nears plan_a 2 3 (Ok (nearest None (Some 672)))
  -- In Plan B leg 2 has to end before leg 0 begins, at a multiple of 50,000, and begins no sooner than 672 after one. At 37,665 it lies 1 ns too late: it may go back by 1, or on
  -- to 50,672.
  pub overlap_late : Nears (plan_with (offsets_b 0 1176 37665)) 2 3 (Ok (nearest (Some 37664) (Some 50672)))
  pub overlap_early : Nears (plan_with (offsets_b 0 1176 50671)) 2 3 (Ok (nearest (Some 37664) (Some 50672)))
  -- At 137,664 it holds its link until its period ends, and no later.
  pub overlap_last : Nears (plan_with (offsets_b 0 1176 137664)) 2 3 (Ok (nearest (Some 137663) None))
  -- Periods of 100,000 and 100,001 meet at every offset.
  pub never : Nears (plan_with (periods_a 0 700)) 2 3 (Ok (nearest None None))
  -- On different links every offset does that keeps the window: of leg 2 the last is 149,328.
  pub other_link : Nears (plan_with (offsets_a 0 1176 149328)) 2 4 (Ok (nearest (Some 149327) None))
  -- Leg 1 starts 1 ns before leg 0 is ready.
  pub hop : Nears (plan_with (offsets_a 0 1175 0)) 1 1 (Ok (nearest None (Some 1176)))
  -- Leg 2 of Plan D lies one period of 2,000 ns late, at 176: it starts at 2,176, just when leg 1 is ready. Its period word stays, so it may go on, and not back.
  pub hop_late : Nears (plan_d (route_d 6528 0 1 2)) 2 1 (Ok (nearest None (Some 177)))
  -- Leg 1 of Plan B holds link 1 for 1 ns past its period.
  pub window : Nears (plan_with (offsets_b 0 93281 672)) 1 0 (Ok (nearest (Some 93280) None))
  -- Leg 1 is ready 1 ns after its deadline, which counts from leg 0 at 600.
  pub deadline : Nears (plan_with (due_a 2351 600)) 1 2 (Ok (nearest (Some 1775) None))
  -- The deadline of a stream's only leg moves with it.
  pub deadline_only : Nears (plan_with (offsets_a 0 1176 40)) 2 2 (Ok (nearest (Some 39) (Some 41)))
  pub deadline_lost : Nears (plan_with short_due) 2 2 (Ok (nearest None None))
  -- Leg 2 has five places, there is no leg 3, and of a table without words 1 comes before 9.
  pub no_place_is : Nears plan_a 2 5 (refused cause.NoPlace 0)
  pub end : Nears plan_a 3 0 (refused cause.NoPlace 0)
  pub no_words : Nears [] 0 0 (refused cause.NoHeader 0)
