-- The refusals 8 to 11 and 17 at numbers: Plan A is well-formed at every revision, and what a cursor or a move is due for is computed. Assumes nothing.
use Prim.Native.Nat.{ℕ, ◌≤◌, ◌<◌}
use mathlib.Core.Path.{◌≡◌, refl}
use mathlib.Core.Logic.{inl, inr}
use native.Mathlib.Omega.{arith}
use Rattle.basics.specs.declared.Cause.TheVariants as cause
use Rattle.table.specs.PlanA.{plan_a_of}
use Rattle.rules.specs.Places.{places_of}
use Rattle.places.specs.Order.{PlaceOrEnd}
use Rattle.shape.specs.Shape.{WellFormedTable}
use Rattle.shape.proofs.AtNumbers.{plans_are_well_formed, plan_a_in_range}
use Rattle.shape.proofs.RefusalsAtNumbers.{shape_refusals_at_numbers}
use Rattle.checker.specs.Cursors.{CursorRight, CursorFault}
use Rattle.checker.specs.RefusalsAtNumbers.{cursor_at, CursorRefusalsAtNumbers, MoveRefusalsAtNumbers}
use Rattle.checker.proofs.LookLaws.{not_standing}

well_formed : (revision : ℕ) → WellFormedTable (plan_a_of revision)
well_formed revision = plans_are_well_formed _ (plan_a_in_range revision 0 1176 0)

stale : (revision other leg place : ℕ) → (other ≡ revision → ⊥) → CursorFault (plan_a_of revision) (cursor_at other leg place) cause.StaleCursor 0
stale revision other leg place h = inr (well_formed revision, inl (refl, refl, h))

lost : (revision leg place : ℕ) → (leg < 3 → places_of leg ≤ place) → (leg ≡ 3 → 0 < place) → CursorFault (plan_a_of revision) (cursor_at revision leg place) cause.NoPlace 0
lost revision leg place f g = inr (well_formed revision, inr (refl, (refl, refl, not_standing (plan_a_of revision) leg place f g)))

right : (revision leg place : ℕ) → PlaceOrEnd (plan_a_of revision) leg place → CursorRight (plan_a_of revision) (cursor_at revision leg place)
right revision leg place h = record { shape = well_formed revision; revision = refl; stands = h }

pub cursor_refusals_at_numbers : CursorRefusalsAtNumbers
cursor_refusals_at_numbers = record {
  table = inl shape_refusals_at_numbers.leg.first;
  stale = stale 7 6 0 3 (λ e. omega (arith, e));
  no_place_is = lost 7 0 3 (λ h. omega arith) (λ e. omega (arith, e));
  past_the_end = lost 7 3 1 (λ h. omega (arith, h)) (λ e. omega arith);
  past_the_legs = lost 7 4 0 (λ h. omega (arith, h)) (λ e. omega (arith, e));
}

pub move_refusals_at_numbers : MoveRefusalsAtNumbers
move_refusals_at_numbers = record {
  table = λ offset. inl cursor_refusals_at_numbers.table;
  stale = λ offset. inl (stale 4294967295 6 0 3 (λ e. omega (arith, e)));
  no_place_is = λ offset. inl (lost 4294967295 0 3 (λ h. omega arith) (λ e. omega (arith, e)));
  no_leg_is = λ offset. inr (right 4294967295 0 2 (inl (record { leg = omega arith; place = omega arith })), inl (refl, refl, λ h. omega (arith, h)));
  cannot_rise_is = λ offset. inr (right 4294967295 3 0 (inr (record { leg = refl; place = refl })), inr (omega arith, inl (refl, refl, λ h. omega (arith, h))));
  too_late_is = λ offset. inr (right 4294967294 3 0 (inr (record { leg = refl; place = refl })), inr (omega arith, inr (omega arith, (refl, refl, λ h. omega (arith, h)))));
  latest = λ offset. record {
    cursor = right 4294967294 3 0 (inr (record { leg = refl; place = refl }));
    can = record { below = omega arith; rises = omega arith; periods = omega arith };
  };
}
