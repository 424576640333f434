-- Margins at numbers, of Plan A, Plan B and their neighbours.
use Rattle.std.specs.Prelude.{ℕ, [], Result, Ok}
use Rattle.basics.specs.Cause.{refused}
use Rattle.basics.specs.declared.Cause.TheVariants as cause
use Rattle.basics.specs.declared.Refusal.{Refusal}
use Rattle.table.specs.PlanA.{plan_with, plan_a, offsets_a, due_a, offsets_b}
use Rattle.margins.specs.Margins.{Margins}
use Rattle.margins.specs.declared.Margin.{Margin}
use Rattle.margins.specs.declared.Margin.TheVariants as margin
use Rattle.margins.specs.declared.Spare.TheVariants as spare
use Rattle.margins.specs.declared.Spare.{Spare}
use Rattle.margins.specs.declared.At.{At}

-- So much is needed, and so much is there.
abbrev pub sides : ℕ → ℕ → Margin
sides needs has = margin.Sides (record { needs = needs; has = has })

-- The divisor, how far the other leg lies after the leg, and how long the leg and the other one hold the link.
abbrev pub turns : ℕ → ℕ → ℕ → ℕ → Margin
turns divisor after hold other = margin.Turns (record { divisor = divisor; after = after; hold = hold; other = other })

-- The answer with these numbers, and so much to spare.
abbrev pub at : Margin → Spare → Result At Refusal
at m s = Ok (record { margin = m; spare = s })

pub record MarginsAtNumbers : Type 0 where
  -- Legs 0 and 2 of Plan A begin at one time. One of them has to give way by a whole hold time.
  pub overlap : Margins plan_a 2 3 (at (turns 50000 0 672 672) (spare.Lacks 672))
  -- In Plan B leg 2 holds link 0 for 12,336 ns, and leg 0 for 672. At 37,665 leg 2 lies 12,335 before leg 0, by the divisor: 1 ns too late. At 671 leg 0 lies 49,329
  -- after it, 671 before the divisor: 1 ns too early. At 700 there are 28 ns to spare after leg 0, and many more before it.
  pub overlap_late : Margins (plan_with (offsets_b 0 1176 37665)) 2 3 (at (turns 50000 12335 12336 672) (spare.Lacks 1))
  pub overlap_early : Margins (plan_with (offsets_b 0 1176 671)) 2 3 (at (turns 50000 49329 12336 672) (spare.Lacks 1))
  pub overlap_kept : Margins (plan_with (offsets_b 0 1176 700)) 2 3 (at (turns 50000 49300 12336 672) (spare.Left 28))
  -- At 37,600 there are 64 ns to spare before leg 0, and many more after it.
  pub overlap_before : Margins (plan_with (offsets_b 0 1176 37600)) 2 3 (at (turns 50000 12400 12336 672) (spare.Left 64))
  -- Legs 1 and 2 take different links.
  pub other_link : Margins plan_a 2 4 (at margin.Free spare.Free)
  -- Leg 1 of Plan B holds link 1 for 6,720 ns.
  pub window : Margins (plan_with (offsets_b 0 1176 672)) 1 0 (at (sides 7896 100000) (spare.Left 92104))
  pub window_late : Margins (plan_with (offsets_b 0 93281 672)) 1 0 (at (sides 100001 100000) (spare.Lacks 1))
  -- Leg 0 is ready at 1,176, and leg 1 starts at 1,175. A first leg has no hop.
  pub hop : Margins (plan_with (offsets_a 0 1175 0)) 1 1 (at (sides 1176 1175) (spare.Lacks 1))
  pub no_hop : Margins plan_a 0 1 (at margin.Free spare.Free)
  -- Both legs of stream 0 are sent 600 ns later, and are due 2,351 ns after leg 0 starts. Leg 0 is not the last of its stream.
  pub deadline : Margins (plan_with (due_a 2351 600)) 1 2 (at (sides 2952 2951) (spare.Lacks 1))
  pub no_deadline : Margins plan_a 0 2 (at margin.Free spare.Free)
  -- Leg 2 has five places, there is no leg 3, and the end is no place.
  pub no_place_is : Margins plan_a 2 5 (refused cause.NoPlace 0)
  pub end : Margins plan_a 3 0 (refused cause.NoPlace 0)
  -- Of a table without words there is no place either, and 1 comes before 9.
  pub no_words : Margins [] 0 0 (refused cause.NoHeader 0)
