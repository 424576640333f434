-- First meetings in Plan A, whose legs 0 and 2 share link 0.
use Rattle.std.specs.Prelude.{ℕ, List, [], Option, Some, None, Result, Ok}
use Rattle.basics.specs.Cause.{refused}
use Rattle.basics.specs.declared.Cause.TheVariants as cause
use Rattle.basics.specs.declared.Refusal.{Refusal}
use Rattle.table.specs.PlanA.{plan_a, plan_with, offsets_a, hold_a}
use Rattle.repeats.specs.declared.Meeting.{Meeting}
use Rattle.meeting.specs.Meets.{Meets}

-- They meet in repeat k of the one leg and repeat m of the other, at instant x.
abbrev pub met_at : ℕ → ℕ → ℕ → Result (Option Meeting) Refusal
met_at k m x = Ok (Some (record { first = k; second = m; instant = x }))

-- Plan A with leg 2 at this offset.
abbrev pub later_a : ℕ → List ℕ
later_a o = plan_with (offsets_a 0 1176 o)

pub record MeetingsAtNumbers : Type 0 where
  -- Legs 2 and 0 of Plan A both begin at 0.
  pub at_0 : Meets plan_a 2 0 (met_at 0 0 0)
  -- With leg 2 at 50,000 their first frames lie far apart: the second of leg 2 and the third of leg 0 both begin at 200,000.
  pub at_50000 : Meets (later_a 50000) 2 0 (met_at 1 2 200000)
  pub the_other_first : Meets (later_a 50000) 0 2 (met_at 2 1 200000)
  -- With leg 2 at 672 they never meet.
  pub at_672 : Meets (later_a hold_a) 2 0 (Ok None)
  -- Legs 1 and 0 are on different links.
  pub other_links : Meets plan_a 1 0 (Ok None)
  -- A leg holds its link when it does itself: first at its offset.
  pub itself : Meets plan_a 1 1 (met_at 0 0 1176)
  -- There is no leg 3.
  pub no_leg_3 : (Meets plan_a 3 0 (refused cause.NoLeg 0)) × (Meets plan_a 0 3 (refused cause.NoLeg 0))
  -- Of a table without words there is no leg either, and 1 comes before 10.
  pub no_words : Meets [] 0 0 (refused cause.NoHeader 0)
