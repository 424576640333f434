-- Plan D is well-formed: its records compute from its words. Assumes nothing.
use Prim.Native.Nat.{ℕ, zero, suc, ◌+◌, ◌≤◌, ◌<◌}
use mathlib.Core.Path.{◌≡◌, refl, ap}
use native.Mathlib.Omega.{arith}
use Rattle.table.specs.Layout.{Sized}
use Rattle.table.specs.PlanD.{PlanDNumbers, plan_d}
use Rattle.table.specs.declared.Link.{Link}
use Rattle.shape.specs.Streams.{legs_before, StreamRight}
use Rattle.shape.specs.Legs.{link_of, LegRight}
use Rattle.shape.specs.Routes.{GoesOn}
use Rattle.shape.specs.Shape.{LinkRight, WellFormedTable}
use Rattle.shape.specs.Theorems.{PeriodsInRangeD, PlanDIsWellFormed}
use Rattle.shape.proofs.LinksComputed.{all_new}
use Rattle.shape.proofs.Rates.{gigabit}
use Rattle.shape.proofs.StreamLaws.{legs_none}
use Rattle.shape.proofs.Reading.{link_on_is}
use Rattle.shape.proofs.Computed.{leg_on_lem, only_leg, goes_up, in_range, link_in_range, before_next, stream_placed}

module _ (n : PlanDNumbers) where
  sized : Sized (plan_d n)
  sized = record {
    head = omega arith;
    limits = record { links = omega arith; streams = omega arith; legs = omega arith; precision = omega arith };
    exact = refl;
  }

  link_right : (i : ℕ) → i < 3 → LinkRight (plan_d n) i
  link_right zero h = link_in_range (plan_d n) 0 (omega arith) (omega arith) (λ e. absurd (omega (arith, e))) gigabit (omega arith)
  link_right (suc zero) h = link_in_range (plan_d n) 1 (omega arith) (omega arith) (λ e. absurd (omega (arith, e))) gigabit (omega arith)
  link_right (suc (suc zero)) h = link_in_range (plan_d n) 2 (omega arith) (omega arith) (λ e. absurd (omega (arith, e))) gigabit (omega arith)
  link_right (suc (suc (suc i))) h = absurd (omega arith)

  before_1 : legs_before (plan_d n) 1 ≡ 1
  before_1 = before_next (plan_d n) 0 (legs_none (plan_d n))

  -- Legs 1, 2 and 3 lead from node 1 to 2, from 2 to 3 and from 3 to 4.
  leads : (a : ℕ) → 1 ≤ a → a < 4 → ((link_of (plan_d n) a).from ≡ a) × ((link_of (plan_d n) a).to ≡ a + 1)
  leads zero l h = absurd (omega arith)
  leads (suc zero) l h = (ap (λ (k : Link). k.from) (link_on_is (plan_d n) 1), ap (λ (k : Link). k.to) (link_on_is (plan_d n) 1))
  leads (suc (suc zero)) l h = (ap (λ (k : Link). k.from) (link_on_is (plan_d n) 2), ap (λ (k : Link). k.to) (link_on_is (plan_d n) 2))
  leads (suc (suc (suc zero))) l h = (ap (λ (k : Link). k.from) (link_on_is (plan_d n) 3), ap (λ (k : Link). k.to) (link_on_is (plan_d n) 3))
  leads (suc (suc (suc (suc a)))) l h = absurd (omega arith)

  on_the_route : (a : ℕ) → 1 ≤ a → a < 4 → GoesOn (plan_d n) 1 a (link_of (plan_d n) a)
  on_the_route a l h = goes_up (plan_d n) 1 4 leads a l h

  module _ (late : PeriodsInRangeD n) where
    leg_right : (a : ℕ) → a < 4 → LegRight (plan_d n) a
    leg_right zero h = leg_on_lem (plan_d n) 0 (omega arith) (omega arith) late.leg_0 (omega arith) (omega arith) (only_leg (plan_d n) 0 (λ e. absurd (omega (arith, e))))
    leg_right (suc zero) h = leg_on_lem (plan_d n) 1 (omega arith) (omega arith) late.leg_1 (omega arith) (omega arith) (on_the_route 1 (omega arith) (omega arith))
    leg_right (suc (suc zero)) h = leg_on_lem (plan_d n) 2 (omega arith) (omega arith) late.leg_2 (omega arith) (omega arith) (on_the_route 2 (omega arith) (omega arith))
    leg_right (suc (suc (suc zero))) h = leg_on_lem (plan_d n) 3 (omega arith) (omega arith) late.leg_3 (omega arith) (omega arith) (on_the_route 3 (omega arith) (omega arith))
    leg_right (suc (suc (suc (suc a)))) h = absurd (omega arith)

    module _ (due : (1 ≤ n.deadline_1) × (n.deadline_1 ≤ 16000)) where
      stream_right : (i : ℕ) → i < 2 → StreamRight (plan_d n) i
      stream_right zero h = stream_placed (plan_d n) 0 (legs_none (plan_d n)) (in_range _ (omega arith, omega arith, omega arith) (omega arith, omega arith) (omega arith, omega arith)) (omega arith)
      stream_right (suc zero) h = stream_placed (plan_d n) 1 before_1 (in_range _ (due.0, omega (arith, due), omega arith) (omega arith, omega arith) (omega arith, omega arith)) (omega arith)
      stream_right (suc (suc i)) h = absurd (omega arith)

      well_formed : WellFormedTable (plan_d n)
      well_formed = record {
        sized = sized;
        links = link_right;
        new_links = all_new (plan_d n) _ refl;
        streams = stream_right;
        counts = before_next (plan_d n) 1 before_1;
        legs = leg_right;
      }

pub plan_d_is_well_formed : PlanDIsWellFormed
plan_d_is_well_formed n late due = well_formed n late due
