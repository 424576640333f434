-- Rechecks at numbers, of Plan A, whose legs 0 and 2 meet at place (2,3).
use Rattle.std.specs.Prelude.{[], Ok}
use Rattle.basics.specs.Cause.{refused}
use Rattle.basics.specs.declared.Cause.TheVariants as cause
use Rattle.table.specs.PlanA.{plan_a}
use Rattle.rules.specs.declared.Rule.TheVariants as rule
use Rattle.recheck.specs.Listed.{place_at}
use Rattle.recheck.specs.Rechecks.{Rechecks}
use Rattle.recheck.specs.Premise.{WasAccepted}
use Rattle.recheck.specs.declared.Rechecked.TheVariants.{Violated, NothingViolated}

pub record RechecksAtNumbers : Type 0 where
  -- Leg 1 is not read there, and all five places of its list hold. With no offset of leg 1 would the rules hold: the premise is not there.
  pub leg_1 : Rechecks plan_a 1 (Ok (NothingViolated 5))
  pub no_premise : WasAccepted plan_a 1 → ⊥
  -- Of the five places of leg 2 it is the fourth. With leg 2 at 672 the rules hold: the premise is there.
  pub leg_2 : Rechecks plan_a 2 (Ok (Violated (place_at 2 3) rule.Overlap 4))
  pub premise : WasAccepted plan_a 2
  -- There is no leg 3.
  pub leg_3 : Rechecks plan_a 3 (refused cause.NoLeg 0)
  -- Of a table without words there is no leg either, and 1 comes before 10.
  pub no_words : Rechecks [] 0 (refused cause.NoHeader 0)
