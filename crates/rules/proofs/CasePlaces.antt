-- Which places of the plans of the cases hold: each rule asks for an inequality of the plan's numbers, whatever its revision. Assumes nothing.
use Prim.Native.Nat.{ℕ, zero, suc, ◌+◌, ◌≤◌, ◌<◌}
use mathlib.Core.Path.{◌≡◌, refl}
use native.Mathlib.Omega.{arith}
use Rattle.table.specs.PlanA.{PlanNumbers, plan_with, revised_a, hold_a}
use Rattle.shape.proofs.AtNumbers.{plan_a_in_range}
use Rattle.overlap.proofs.Law.{shared_instant}
use Rattle.overlap.proofs.AtNumbers.{clear_at}
use Rattle.rules.specs.Times.{wire_time, hold_time, lasting, max_time}
use Rattle.rules.specs.Places.{places_of, AskedOf, AskedHolds, PlaceHolds}
use Rattle.rules.specs.declared.Asked.{Asked}
use Rattle.rules.specs.declared.Asked.TheVariants as asked
use Rattle.rules.proofs.Placing.{place_holds, asked_holds, places_hold}
use Rattle.rules.proofs.CasePlans.{Bounded, plan, h0, h1, h2, r1, r2, slot_0, slot_2, window_0, window_1, window_2, hop_0, hop_1, hop_1_broken, hop_2, deadline_0, deadline_1, deadline_2, overlap_10, overlap_20, overlap_20_broken, overlap_21}

-- What is asked of legs 0 and 1, and of leg 2 alone.
module _ (n : PlanNumbers) (b : Bounded n) where
  asked_0 : n.offset_0 + h0 n ≤ n.period_0 → (q : Asked) → AskedOf 0 q → AskedHolds (plan_with n) 0 q
  unfolding plan
  asked_0 w asked.Window o = window_0 n b w
  asked_0 w asked.Hop o = hop_0 n b
  asked_0 w asked.Deadline o = deadline_0 n b
  asked_0 w (asked.Overlap c) o = absurd (omega arith)

  places_0 : n.offset_0 + h0 n ≤ n.period_0 → (p : ℕ) → p < places_of 0 → PlaceHolds (plan_with n) 0 p
  places_0 w = places_hold (plan_with n) 0 0 (asked_0 w)

  place_1_0 : n.offset_1 + h1 n ≤ n.period_0 → PlaceHolds (plan_with n) 1 0
  unfolding plan
  place_1_0 w = place_holds (plan_with n) 1 asked.Window (window_1 n b w)

  asked_1 : n.offset_1 + h1 n ≤ n.period_0 → n.offset_0 + 1176 ≤ n.offset_1 → r1 n ≤ n.deadline_0 + n.offset_0 → (q : Asked) → AskedOf 1 q
      → AskedHolds (plan_with n) 1 q
  unfolding plan
  asked_1 w k d asked.Window o = window_1 n b w
  asked_1 w k d asked.Hop o = hop_1 n b k
  asked_1 w k d asked.Deadline o = deadline_1 n b d
  asked_1 w k d (asked.Overlap zero) o = overlap_10 n b
  asked_1 w k d (asked.Overlap (suc c)) o = absurd (omega arith)

  asked_2 : n.offset_2 + h2 n ≤ n.period_1 → r2 n ≤ n.deadline_1 + n.offset_2 → (q : Asked) → AskedOf 0 q → AskedHolds (plan_with n) 2 q
  unfolding plan
  asked_2 w d asked.Window o = window_2 n b w
  asked_2 w d asked.Hop o = hop_2 n b
  asked_2 w d asked.Deadline o = deadline_2 n b d
  asked_2 w d (asked.Overlap c) o = absurd (omega arith)

-- Plan A with small offsets.
pub bounded_a : (revision o0 o1 o2 : ℕ) → o0 + o1 + o2 ≤ max_time → Bounded (revised_a revision o0 o1 o2)
bounded_a revision o0 o1 o2 h = record { in_range = plan_a_in_range revision o0 o1 o2; offsets = h }

-- Wherever leg 2 is below 100,000, the places before (2,3) hold.
module _ (revision o2 : ℕ) (w : o2 ≤ 100000) where
  bounded : Bounded (revised_a revision 0 1176 o2)
  bounded = bounded_a revision 0 1176 o2 (omega arith)

  alone_2 : (q : Asked) → AskedOf 0 q → AskedHolds (plan_with (revised_a revision 0 1176 o2)) 2 q
  unfolding wire_time hold_time lasting
  alone_2 = asked_2 (revised_a revision 0 1176 o2) bounded (omega arith) (omega arith)

  pub before_meeting : (a p : ℕ) → a < 3 → p < places_of a → (a ≡ 2 → p < 3) → PlaceHolds (plan_with (revised_a revision 0 1176 o2)) a p
  unfolding wire_time hold_time lasting
  before_meeting zero p l h f = places_0 (revised_a revision 0 1176 o2) bounded (omega arith) p h
  before_meeting (suc zero) p l h f = places_hold (plan_with (revised_a revision 0 1176 o2)) 1 1 (asked_1 (revised_a revision 0 1176 o2) bounded (omega arith) (omega arith) (omega arith)) p h
  before_meeting (suc (suc zero)) p l h f = places_hold (plan_with (revised_a revision 0 1176 o2)) 2 0 alone_2 p (f refl)
  before_meeting (suc (suc (suc a))) p l h f = absurd (omega arith)

-- Where leg 2 begins when leg 0 ends all places hold.
module _ (revision : ℕ) where
  beside_2 : (q : Asked) → AskedOf 2 q → AskedHolds (plan_with (revised_a revision 0 1176 hold_a)) 2 q
  unfolding plan hold_time lasting
  beside_2 asked.Window o = alone_2 revision hold_a (omega arith) asked.Window tt
  beside_2 asked.Hop o = alone_2 revision hold_a (omega arith) asked.Hop tt
  beside_2 asked.Deadline o = alone_2 revision hold_a (omega arith) asked.Deadline tt
  beside_2 (asked.Overlap zero) o = overlap_20 (revised_a revision 0 1176 hold_a) (bounded revision hold_a (omega arith)) (clear_at _ _ _ (omega arith, omega arith) (omega arith) (omega arith, omega arith))
  beside_2 (asked.Overlap (suc zero)) o = overlap_21 (revised_a revision 0 1176 hold_a) (bounded revision hold_a (omega arith))
  beside_2 (asked.Overlap (suc (suc c))) o = absurd (omega arith)

  pub all_hold : (a p : ℕ) → a < 3 → p < places_of a → PlaceHolds (plan_with (revised_a revision 0 1176 hold_a)) a p
  all_hold zero p l h = before_meeting revision hold_a (omega arith) 0 p l h (λ e. absurd (omega (arith, e)))
  all_hold (suc zero) p l h = before_meeting revision hold_a (omega arith) 1 p l h (λ e. absurd (omega (arith, e)))
  all_hold (suc (suc zero)) p l h = places_hold (plan_with (revised_a revision 0 1176 hold_a)) 2 2 beside_2 p h
  all_hold (suc (suc (suc a))) p l h = absurd (omega arith)

  -- At 0 it meets leg 0 at once.
  pub meets_at_2_3 : PlaceHolds (plan_with (revised_a revision 0 1176 0)) 2 3 → ⊥
  unfolding plan hold_time lasting
  meets_at_2_3 h =
      let n = revised_a revision 0 1176 0 in
      overlap_20_broken n (bounded revision 0 (omega arith))
      (shared_instant (slot_0 n) (slot_2 n) 0 0 0 (record { begun = omega arith; not_ended = omega arith }) (record { begun = omega arith; not_ended = omega arith }))
      (asked_holds (plan_with n) 2 (asked.Overlap 0) h)

  -- With leg 0 at 600 its places hold, and the window of leg 1, but it is not ready in time for leg 1.
  pub places_0_at_600 : (p : ℕ) → p < places_of 0 → PlaceHolds (plan_with (revised_a revision 600 1176 0)) 0 p
  unfolding hold_time lasting
  places_0_at_600 = places_0 (revised_a revision 600 1176 0) (bounded_a revision 600 1176 0 (omega arith)) (omega arith)

  pub place_1_0_at_600 : PlaceHolds (plan_with (revised_a revision 600 1176 0)) 1 0
  unfolding hold_time lasting
  place_1_0_at_600 = place_1_0 (revised_a revision 600 1176 0) (bounded_a revision 600 1176 0 (omega arith)) (omega arith)

  pub late_at_1_1 : PlaceHolds (plan_with (revised_a revision 600 1176 0)) 1 1 → ⊥
  unfolding plan
  late_at_1_1 h =
      let n = revised_a revision 600 1176 0 in
      hop_1_broken n (bounded_a revision 600 1176 0 (omega arith)) (omega arith) (asked_holds (plan_with n) 1 asked.Hop h)
