-- The rules at numbers with Plan D, whose records compute from its words. Assumes nothing.
use Prim.Native.Nat.{ℕ, zero, suc, ◌+◌, ◌≤◌, ◌<◌}
use mathlib.Core.Path.{◌≡◌, refl}
use native.Mathlib.Omega.{arith}
use Rattle.table.specs.PlanD.{PlanDNumbers, plan_d, route_d, late_d}
use Rattle.shape.specs.Theorems.{PeriodsInRangeD}
use Rattle.shape.specs.Shape.{WellFormedTable}
use Rattle.shape.proofs.Reading.{leg_on}
use Rattle.shape.proofs.PlanD.{plan_d_is_well_formed}
use Rattle.overlap.specs.Meeting.{NeverMeet}
use Rattle.overlap.specs.declared.Slot.{Slot}
use Rattle.overlap.specs.Divisor.{IsGcd}
use Rattle.overlap.proofs.Law.{divisor_law, shared_instant, meeting_is_symmetric}
use Rattle.rules.specs.Times.{start_time, wire_time, hold_time, lasting}
use Rattle.rules.specs.Rules.{Window, Hop, Deadline, Overlap, RulesHold}
use Rattle.rules.specs.CasesOfPlanD.{CasesOfPlanD}
use Rattle.rules.proofs.Judging.{window_kept, window_broken, first_has_no_hop, not_last_has_no_deadline, overlap_says_of}
use Rattle.rules.proofs.CasePlans.{slot_of}
use Rattle.rules.proofs.Computed.{Near, frame, hop, no_hop, in_time, late, apart}

-- A slot of leg 0, and that of leg 1.
abbrev pub slot_0 : ℕ → Slot
slot_0 o = record { offset = o; period = 4000; hold = 672 }

abbrev pub slot_1 : Slot
slot_1 = record { offset = 0; period = 2000; hold = 672 }

-- At 672 they never meet: leg 0 is sent 672 ns after a repeat of leg 1 and is through 656 ns before the next one.
two_thousand : IsGcd 2000 4000 2000
two_thousand = record { left = ∣ (1, refl) ∣₁; right = ∣ (2, refl) ∣₁; greatest = λ d p q. p }

pub never : NeverMeet slot_1 (slot_0 672)
never =
    (divisor_law slot_1 (slot_0 672) 2000 672 (omega arith) (omega arith) (omega arith) (omega arith) two_thousand
    (record { below = omega arith; same = refl })
    ).1 (record { first = omega arith; second = omega arith })

module _ (n : PlanDNumbers) (late-words : PeriodsInRangeD n) (small : n.deadline_1 + n.offset_0 ≤ 16000) where
  pub near : (a : ℕ) → a < 4 → Near (plan_d n) a
  unfolding start_time wire_time hold_time lasting
  near zero h = record { repeats = omega arith; lasts = (omega arith, omega arith); small = omega (arith, late-words.leg_0) }
  near (suc zero) h = record { repeats = omega arith; lasts = (omega arith, omega arith); small = omega (arith, late-words.leg_1) }
  near (suc (suc zero)) h = record { repeats = omega arith; lasts = (omega arith, omega arith); small = omega (arith, late-words.leg_2) }
  near (suc (suc (suc zero))) h = record { repeats = omega arith; lasts = (omega arith, omega arith); small = omega (arith, late-words.leg_3) }
  near (suc (suc (suc (suc a)))) h = absurd (omega arith)

  window_0 : n.offset_0 ≤ 3328 → Window (plan_d n) 0
  unfolding hold_time lasting
  window_0 le = window_kept (plan_d n) 0 _ (frame (plan_d n) (omega arith) near 0 (omega arith)) (omega arith)

  no_window_0 : 3328 < n.offset_0 → Window (plan_d n) 0 → ⊥
  unfolding hold_time lasting
  no_window_0 lt = window_broken (plan_d n) 0 _ (frame (plan_d n) (omega arith) near 0 (omega arith)) (omega arith)

  overlap_10 : NeverMeet slot_1 (slot_0 n.offset_0) → Overlap (plan_d n) 1 0
  unfolding hold_time lasting
  overlap_10 m =
      (overlap_says_of (plan_d n) 1 0 0 _ _ _ (frame (plan_d n) (omega arith) near 1 (omega arith)) (frame (plan_d n) (omega arith) near 0 (omega arith)).link refl
      (slot_of (plan_d n) 1 _ (frame (plan_d n) (omega arith) near 1 (omega arith))) (slot_of (plan_d n) 0 _ (frame (plan_d n) (omega arith) near 0 (omega arith)))).0 m

  overlap_01 : NeverMeet slot_1 (slot_0 n.offset_0) → Overlap (plan_d n) 0 1
  unfolding hold_time lasting
  overlap_01 m =
      (overlap_says_of (plan_d n) 0 1 0 _ _ _ (frame (plan_d n) (omega arith) near 0 (omega arith)) (frame (plan_d n) (omega arith) near 1 (omega arith)).link refl
      (slot_of (plan_d n) 0 _ (frame (plan_d n) (omega arith) near 0 (omega arith))) (slot_of (plan_d n) 1 _ (frame (plan_d n) (omega arith) near 1 (omega arith)))).0
      (meeting_is_symmetric slot_1 (slot_0 n.offset_0) m)

  no_overlap_10 : (NeverMeet slot_1 (slot_0 n.offset_0) → ⊥) → Overlap (plan_d n) 1 0 → ⊥
  unfolding hold_time lasting
  no_overlap_10 m o =
      m
      ((overlap_says_of (plan_d n) 1 0 0 _ _ _ (frame (plan_d n) (omega arith) near 1 (omega arith)) (frame (plan_d n) (omega arith) near 0 (omega arith)).link refl
      (slot_of (plan_d n) 1 _ (frame (plan_d n) (omega arith) near 1 (omega arith))) (slot_of (plan_d n) 0 _ (frame (plan_d n) (omega arith) near 0 (omega arith)))).1 o)

-- Plan D with the words p, p + 1 and p + 2 of its route.
module _ (p : ℕ) (most : p ≤ 5) where
  abbrev d : PlanDNumbers
  d = route_d 6528 p (p + 1) (p + 2)

  words : PeriodsInRangeD d
  words = record { leg_0 = omega arith; leg_1 = omega arith; leg_2 = omega arith; leg_3 = omega arith }

  close : (a : ℕ) → a < 4 → Near (plan_d d) a
  close = near d words (omega arith)

  windows : (a : ℕ) → a < 4 → Window (plan_d d) a
  unfolding hold_time lasting
  windows zero h = window_kept (plan_d d) 0 _ (frame (plan_d d) (omega arith) close 0 h) (omega arith)
  windows (suc zero) h = window_kept (plan_d d) 1 _ (frame (plan_d d) (omega arith) close 1 h) (omega arith)
  windows (suc (suc zero)) h = window_kept (plan_d d) 2 _ (frame (plan_d d) (omega arith) close 2 h) (omega arith)
  windows (suc (suc (suc zero))) h = window_kept (plan_d d) 3 _ (frame (plan_d d) (omega arith) close 3 h) (omega arith)
  windows (suc (suc (suc (suc a)))) h = absurd (omega arith)

  hops : (a : ℕ) → a < 4 → Hop (plan_d d) a
  unfolding start_time wire_time lasting
  hops zero h = first_has_no_hop (plan_d d) 0 _ (frame (plan_d d) (omega arith) close 0 h) (omega arith)
  hops (suc zero) h = first_has_no_hop (plan_d d) 1 _ (frame (plan_d d) (omega arith) close 1 h) (omega arith)
  hops (suc (suc zero)) h = hop (plan_d d) (omega arith) close 2 1 h refl (omega arith)
  hops (suc (suc (suc zero))) h = hop (plan_d d) (omega arith) close 3 2 h refl (omega arith)
  hops (suc (suc (suc (suc a)))) h = absurd (omega arith)

  deadlines : (a : ℕ) → a < 4 → Deadline (plan_d d) a
  unfolding start_time wire_time lasting
  deadlines zero h = in_time (plan_d d) (omega arith) close 0 h (omega arith) (omega arith)
  deadlines (suc zero) h = not_last_has_no_deadline (plan_d d) 1 _ (frame (plan_d d) (omega arith) close 1 h) (omega arith)
  deadlines (suc (suc zero)) h = not_last_has_no_deadline (plan_d d) 2 _ (frame (plan_d d) (omega arith) close 2 h) (omega arith)
  deadlines (suc (suc (suc zero))) h = in_time (plan_d d) (omega arith) close 3 h (omega arith) (omega arith)
  deadlines (suc (suc (suc (suc a)))) h = absurd (omega arith)

  on_other_links : (a b : ℕ) → ((leg_on (plan_d d) b).link ≡ (leg_on (plan_d d) a).link → ⊥) → Overlap (plan_d d) a b
  on_other_links = apart (plan_d d) (omega arith) close

  overlaps : (a b : ℕ) → a < 4 → b < 4 → (a ≡ b → ⊥) → Overlap (plan_d d) a b
  overlaps zero zero h l n = absurd (n refl)
  overlaps zero (suc zero) h l n = overlap_01 d words (omega arith) never
  overlaps zero (suc (suc zero)) h l n = on_other_links 0 2 (λ e. absurd (omega (arith, e)))
  overlaps zero (suc (suc (suc zero))) h l n = on_other_links 0 3 (λ e. absurd (omega (arith, e)))
  overlaps zero (suc (suc (suc (suc b)))) h l n = absurd (omega arith)
  overlaps (suc zero) zero h l n = overlap_10 d words (omega arith) never
  overlaps (suc zero) (suc zero) h l n = absurd (n refl)
  overlaps (suc zero) (suc (suc zero)) h l n = on_other_links 1 2 (λ e. absurd (omega (arith, e)))
  overlaps (suc zero) (suc (suc (suc zero))) h l n = on_other_links 1 3 (λ e. absurd (omega (arith, e)))
  overlaps (suc zero) (suc (suc (suc (suc b)))) h l n = absurd (omega arith)
  overlaps (suc (suc zero)) zero h l n = on_other_links 2 0 (λ e. absurd (omega (arith, e)))
  overlaps (suc (suc zero)) (suc zero) h l n = on_other_links 2 1 (λ e. absurd (omega (arith, e)))
  overlaps (suc (suc zero)) (suc (suc zero)) h l n = absurd (n refl)
  overlaps (suc (suc zero)) (suc (suc (suc zero))) h l n = on_other_links 2 3 (λ e. absurd (omega (arith, e)))
  overlaps (suc (suc zero)) (suc (suc (suc (suc b)))) h l n = absurd (omega arith)
  overlaps (suc (suc (suc zero))) zero h l n = on_other_links 3 0 (λ e. absurd (omega (arith, e)))
  overlaps (suc (suc (suc zero))) (suc zero) h l n = on_other_links 3 1 (λ e. absurd (omega (arith, e)))
  overlaps (suc (suc (suc zero))) (suc (suc zero)) h l n = on_other_links 3 2 (λ e. absurd (omega (arith, e)))
  overlaps (suc (suc (suc zero))) (suc (suc (suc zero))) h l n = absurd (n refl)
  overlaps (suc (suc (suc zero))) (suc (suc (suc (suc b)))) h l n = absurd (omega arith)
  overlaps (suc (suc (suc (suc a)))) b h l n = absurd (omega arith)

  accepted : WellFormedTable (plan_d d) × RulesHold (plan_d d)
  accepted = (
    plan_d_is_well_formed d words (omega arith, omega arith),
    record { window = windows; hop = hops; deadline = deadlines; overlap = overlaps },
  )

-- Words that may be, at numbers.
few : (d p1 p2 p3 : ℕ) → p1 + p2 + p3 ≤ 7 → PeriodsInRangeD (route_d d p1 p2 p3)
few d p1 p2 p3 h = record { leg_0 = omega arith; leg_1 = omega arith; leg_2 = omega arith; leg_3 = omega arith }

pub only : (o p : ℕ) → p ≤ 7 → PeriodsInRangeD (late_d o p)
only o p h = record { leg_0 = h; leg_1 = omega arith; leg_2 = omega arith; leg_3 = omega arith }

module _ (due p1 p2 p3 : ℕ) (words : p1 + p2 + p3 ≤ 7) (small : due ≤ 10000) where
  beside : (a : ℕ) → a < 4 → Near (plan_d (route_d due p1 p2 p3)) a
  beside = near (route_d due p1 p2 p3) (few due p1 p2 p3 words) (omega arith)

pub cases_of_plan_d : CasesOfPlanD
unfolding start_time wire_time hold_time lasting
cases_of_plan_d = record {
  accepted = accepted 0 (omega arith);
  hop_last = no_hop (plan_d (route_d 6528 0 1 1)) (omega arith) (beside 6528 0 1 1 (omega arith) (omega arith)) 3 2 (omega arith) refl (omega arith) (omega arith);
  hop_middle = no_hop (plan_d (route_d 6528 0 0 2)) (omega arith) (beside 6528 0 0 2 (omega arith) (omega arith)) 2 1 (omega arith) refl (omega arith) (omega arith);
  deadline = late (plan_d (route_d 6527 0 1 2)) (omega arith) (beside 6527 0 1 2 (omega arith) (omega arith)) 3 (omega arith) (omega arith) refl (omega arith);
  first_late = accepted 1 (omega arith);
  first_late_hop = no_hop (plan_d (route_d 6528 1 1 2)) (omega arith) (beside 6528 1 1 2 (omega arith) (omega arith)) 2 1 (omega arith) refl (omega arith) (omega arith);
  first_late_deadline = late (plan_d (route_d 6527 1 2 3)) (omega arith) (beside 6527 1 2 3 (omega arith) (omega arith)) 3 (omega arith) (omega arith) refl (omega arith);
  latest = accepted 5 (omega arith);
  window = λ p h. (window_0 (late_d 3328 p) (only 3328 p h) (omega arith) (omega arith), no_window_0 (late_d 3329 p) (only 3329 p h) (omega arith) (omega arith));
  overlap = λ p h. (
    overlap_10 (late_d 672 p) (only 672 p h) (omega arith) never,
    no_overlap_10 (late_d 671 p) (only 671 p h) (omega arith)
        (shared_instant slot_1 (slot_0 671) 0 0 671 (record { begun = omega arith; not_ended = omega arith }) (record { begun = omega arith; not_ended = omega arith })),
  );
}
