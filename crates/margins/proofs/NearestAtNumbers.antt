-- Nearest offsets of Plan A, Plan B and their neighbours, and of Plan D: the ranges of their frames. Assumes nothing.
use Prim.Native.Nat.{ℕ, ◌+◌, ◌-◌, ◌%◌, ◌≤◌, ◌<◌}
use mathlib.Core.Path.{◌≡◌, refl, sym}
use mathlib.Core.List.{List}
use mathlib.Core.Logic.{inl, inr}
use native.Mathlib.Nat.{dvd-sub, one-dvd}
use native.Mathlib.Omega.{arith}
use Rattle.std.specs.Prelude.{Option, Some, None, Ok}
use Rattle.numbers.specs.Number.{max_word}
use Rattle.table.specs.PlanA.{PlanNumbers, plan_with, offsets_a, due_a, periods_a, offsets_b}
use Rattle.shape.proofs.AtNumbers.{like_a_in_range, plan_a_in_range, plan_a_is_well_formed}
use Rattle.table.specs.PlanD.{PlanDNumbers, plan_d, route_d}
use Rattle.shape.specs.Theorems.{PeriodsInRangeD}
use Rattle.shape.proofs.PlanD.{plan_d_is_well_formed}
use Rattle.overlap.specs.Divisor.{IsGcd}
use Rattle.offsets.specs.declared.Condition.{Condition}
use Rattle.offsets.proofs.Saying.{free_allows, pair_says}
use Rattle.rules.specs.Times.{start_time, wire_time, hold_time, lasting, max_ready, offset_of}
use Rattle.rules.specs.Places.{place_of}
use Rattle.rules.specs.declared.Asked.{Asked}
use Rattle.rules.specs.declared.Asked.TheVariants as asked
use Rattle.rules.proofs.Asking.{places_are_asked}
use Rattle.rules.proofs.CasePlans.{Bounded, plan, h0, h1, h2, w1, w2, f0, f1, f2, is_0, is_1, is_2, ready_0, ready_of_lem}
use Rattle.rules.proofs.CasePlaces.{bounded_a}
use Rattle.rules.proofs.CasesOfPlanD as plan-d
use Rattle.rules.proofs.Computed.{Near, frame, frame_on, ready}
use Rattle.margins.specs.Asking.{CanAsk}
use Rattle.margins.specs.Nearest.{IsBelow, IsAbove, Nears}
use Rattle.margins.specs.Moving.{Moving}
use Rattle.margins.specs.Ranges.{Among, Between, InWindow, RangeFor, StandsAt}
use Rattle.margins.specs.NearestAtNumbers.{nearest, short_due, NearestAtNumbers}
use Rattle.margins.specs.declared.Range.{Range}
use Rattle.margins.proofs.AtNumbers.{can, plain, bounded_b, bounded_due_a}
use Rattle.margins.proofs.NearLaws.{nearest_by, moving_leg}
use Rattle.margins.proofs.RangeLaws.{among_range, between_range, whole_range, window_range, hop_range, late_from, due_range, kept_range, lost_range, other_link_range, apart_range, starts_small, slot_repeats}
use Rattle.margins.proofs.TurnLaws.{turned}

-- A range without a condition.
abbrev plain_range : ℕ → ℕ → Range
plain_range from end = record { from = from; end = end; turn = record { modulus = 1; shift = 0; before = 0; after = 1 } }

plain_range_lem : (from end : ℕ) → from ≤ max_ready → end ≤ max_word → RangeFor (Between from end) (plain_range from end)
plain_range_lem from end f e =
    between_range from end _ (plain_range from end) free_allows
    (among_range from end _ _ f e (turned _ 1 free_allows.sound (omega arith)))

-- An answer by the numbers of a range.
module _ (t : List ℕ) (a : ℕ) (q : Asked) (P : ℕ → Type 0) (r : Range) (can_ask : CanAsk t a (place_of q)) (says : RangeFor P r) (range : RangeFor (StandsAt t a q) r) where
  near : (y : ℕ) (below above : Option ℕ) → y ≡ offset_of t a → IsBelow P y below → IsAbove P y above → Nears t a (place_of q) (Ok (nearest below above))
  near y below above own k l = (
    can_ask,
    nearest_by t a (place_of q) q (sym (places_are_asked.there q)) P (λ x h. range.to x (says.from x h)) (λ x h. says.to x (range.from x h)) y own below above k l,
  )

-- Numbers between: the one before, the next one, or none.
module _ (from end y : ℕ) where
  below_next : (x : ℕ) → from ≤ x → x < end → x + 1 ≡ y → IsBelow (Between from end) y (Some x)
  below_next x f e n = record { below = omega arith; has = record { above = f; below = e }; none_between = λ z p q k. omega arith }

  below_none : y ≤ from → IsBelow (Between from end) y None
  below_none h z p k = omega (arith, k.above)

  above_next : (x : ℕ) → from ≤ x → x < end → x ≡ y + 1 → IsAbove (Between from end) y (Some x)
  above_next x f e n = record { above = omega arith; has = record { above = f; below = e }; none_between = λ z p q k. omega arith }

  above_none : end ≤ y + 1 → IsAbove (Between from end) y None
  above_none h z p k = omega (arith, k.below)

module _ (n : PlanNumbers) (b : Bounded n) where
  moving_1 : Moving (plan_with n) 1 (f1 n)
  unfolding plan
  moving_1 = moving_leg (plan_with n) 1 0 (f1 n) (can n b 1 0 (omega arith) (omega arith)) (is_1 n b)

  moving_2 : Moving (plan_with n) 2 (f2 n)
  unfolding plan
  moving_2 = moving_leg (plan_with n) 2 0 (f2 n) (can n b 2 0 (omega arith) (omega arith)) (is_2 n b)

  -- The first offsets with which legs 1 and 2 do not keep their windows.
  abbrev e1 : ℕ
  e1 = n.period_0 + 1 - h1 n

  abbrev e2 : ℕ
  e2 = n.period_1 + 1 - h2 n

  module _ (below above : Option ℕ) where
    window_1 : e1 ≤ max_word → IsBelow (Between 0 e1) n.offset_1 below → IsAbove (Between 0 e1) n.offset_1 above → Nears (plan_with n) 1 0 (Ok (nearest below above))
    unfolding plan f1
    window_1 small =
        let p = plain_range_lem 0 e1 (omega arith) small in
        near (plan_with n) 1 asked.Window (Between 0 e1) (plain_range 0 e1) (can n b 1 0 (omega arith) (omega arith)) p
        (window_range (plan_with n) 1 (f1 n) moving_1 (plain_range 0 e1) (whole_range (plan_with n) 1 (f1 n) moving_1 e1 (plain_range 0 e1) refl p))
        n.offset_1 below above (is_1 n b).offset

    hop_1 : e1 ≤ max_word → n.offset_0 + 1176 ≤ max_ready → IsBelow (Between (n.offset_0 + 1176) e1) n.offset_1 below → IsAbove (Between (n.offset_0 + 1176) e1) n.offset_1 above
        → Nears (plan_with n) 1 1 (Ok (nearest below above))
    unfolding plan f1
    hop_1 small few =
        let p = plain_range_lem (n.offset_0 + 1176) e1 few small in
        near (plan_with n) 1 asked.Hop (Between (n.offset_0 + 1176) e1) (plain_range (n.offset_0 + 1176) e1) (can n b 1 1 (omega arith) (omega arith)) p
        (hop_range (plan_with n) 1 (f1 n) moving_1 0 (n.offset_0 + 1176) (n.offset_0 + 1176) e1 (plain_range (n.offset_0 + 1176) e1) (omega arith) refl (ready_0 n b) (omega arith) refl p)
        n.offset_1 below above (is_1 n b).offset

    -- A deadline that comes before the window's end.
    deadline_1 : (end : ℕ) → end ≤ e1 → end ≤ max_word → end ≡ n.deadline_0 + n.offset_0 + 1 - (w1 n + n.propagation_1 + 100)
        → IsBelow (Between 0 end) n.offset_1 below → IsAbove (Between 0 end) n.offset_1 above → Nears (plan_with n) 1 2 (Ok (nearest below above))
    unfolding plan f0 f1
    deadline_1 end first small is =
        let p = plain_range_lem 0 end (omega arith) small in
        let at = ready_of_lem (plan_with n) 1 (f1 n) (is_1 n b) (omega arith) in
        let late = late_from (plan_with n) 1 (f1 n) moving_1 (f0 n) _ end (is_0 n b) at (omega arith) in
        near (plan_with n) 1 asked.Deadline (Between 0 end) (plain_range 0 end) (can n b 1 2 (omega arith) (omega arith)) p
        (due_range (plan_with n) 1 (f1 n) moving_1 end e1 end (plain_range 0 end) (omega arith) (omega arith) late refl
        (omega arith) p)
        n.offset_1 below above (is_1 n b).offset

    whole_2 : e2 ≤ max_word → RangeFor (InWindow (plan_with n) 2) (plain_range 0 e2)
    unfolding plan f2
    whole_2 small = whole_range (plan_with n) 2 (f2 n) moving_2 e2 (plain_range 0 e2) refl (plain_range_lem 0 e2 (omega arith) small)

    deadline_2 : e2 ≤ max_word → n.offset_2 + w2 n + 600 ≤ n.deadline_1 + n.offset_2 → IsBelow (Between 0 e2) n.offset_2 below → IsAbove (Between 0 e2) n.offset_2 above
        → Nears (plan_with n) 2 2 (Ok (nearest below above))
    unfolding plan f2
    deadline_2 small kept =
        let at = ready_of_lem (plan_with n) 2 (f2 n) (is_2 n b) (omega arith) in
        near (plan_with n) 2 asked.Deadline (Between 0 e2) (plain_range 0 e2) (can n b 2 2 (omega arith) (omega arith)) (plain_range_lem 0 e2 (omega arith) small)
        (kept_range (plan_with n) 2 (f2 n) moving_2 _ (plain_range 0 e2) (omega arith) at (omega arith) (omega arith) (whole_2 small))
        n.offset_2 below above (is_2 n b).offset

    lost_2 : n.deadline_1 + n.offset_2 < n.offset_2 + w2 n + 600 → IsBelow (Between 0 0) n.offset_2 below → IsAbove (Between 0 0) n.offset_2 above
        → Nears (plan_with n) 2 2 (Ok (nearest below above))
    unfolding plan f2
    lost_2 broken =
        let at = ready_of_lem (plan_with n) 2 (f2 n) (is_2 n b) (omega arith) in
        let p = plain_range_lem 0 0 (omega arith) (omega arith) in
        near (plan_with n) 2 asked.Deadline (Between 0 0) (plain_range 0 0) (can n b 2 2 (omega arith) (omega arith)) p
        (lost_range (plan_with n) 2 (f2 n) moving_2 _ (plain_range 0 0) (omega arith) at (omega arith) (omega arith) p)
        n.offset_2 below above (is_2 n b).offset

    pub other_link_2 : e2 ≤ max_word → IsBelow (Between 0 e2) n.offset_2 below → IsAbove (Between 0 e2) n.offset_2 above → Nears (plan_with n) 2 4 (Ok (nearest below above))
    unfolding plan f1 f2
    other_link_2 small =
        near (plan_with n) 2 (asked.Overlap 1) (Between 0 e2) (plain_range 0 e2) (can n b 2 4 (omega arith) (omega arith)) (plain_range_lem 0 e2 (omega arith) small)
        (other_link_range (plan_with n) 2 (f2 n) moving_2 1 (f1 n) (plain_range 0 e2) (omega arith) (is_1 n b) (λ e. omega (arith, e)) (whole_2 small))
        n.offset_2 below above (is_2 n b).offset

    -- Overlap with leg 0, by the divisor g of the two periods.
    module _ (g : ℕ) (gcd : IsGcd n.period_0 n.period_1 g) where
      abbrev condition : Condition
      condition = record { modulus = g; shift = (0 + (g - n.offset_0 % g)) % g; before = h0 n; after = h2 n }

      overlap_2 : e2 ≤ max_word → h0 n ≤ max_word → IsBelow (Among 0 e2 condition) n.offset_2 below → IsAbove (Among 0 e2 condition) n.offset_2 above
          → Nears (plan_with n) 2 3 (Ok (nearest below above))
      unfolding plan f0 f2
      overlap_2 small held =
          let m = moving_2 in
          let says = pair_says (starts_small (plan_with n) 2 (f2 n) m) (slot_repeats (plan_with n) 0 (f0 n) (is_0 n b)) gcd held in
          let r : Range = record { from = 0; end = e2; turn = condition } in
          let p : RangeFor (Among 0 e2 condition) r = among_range 0 e2 condition condition (omega arith) small
          (record { turning = record { sound = says.sound; some = m.frame.hold.from }; to = λ x k. k; from = λ x k. k }) in
          near (plan_with n) 2 (asked.Overlap 0) (Among 0 e2 condition) r (can n b 2 3 (omega arith) (omega arith)) p
          (apart_range (plan_with n) 2 (f2 n) m 0 (f0 n) r (omega arith) (is_0 n b) e2 condition refl refl says p)
          n.offset_2 below above (is_2 n b).offset

fifty : IsGcd 100000 150000 50000
fifty = record { left = ∣ (2, refl) ∣₁; right = ∣ (3, refl) ∣₁; greatest = λ d p q. dvd-sub d q p }

coprime : IsGcd 100000 100001 1
coprime = record { left = one-dvd 100000; right = one-dvd 100001; greatest = λ d p q. dvd-sub d q p }

-- In Plan B leg 2 begins from 672 to 37,664 after a multiple of 50,000, and below 137,665.
abbrev Clear : ℕ → Type 0
Clear = Among 0 137665 (record { modulus = 50000; shift = 0; before = 672; after = 12336 })

clear : (x : ℕ) → x < 137665 → 672 ≤ x % 50000 → x % 50000 ≤ 37664 → Clear x
clear x l f s = let e : x + 0 ≡ x = omega arith in record { above = omega arith; below = l; allowed = record { apart = rw e (record { first = f; second = omega arith }) } }

clear_from : (x : ℕ) → Clear x → (672 ≤ x % 50000) × (x % 50000 ≤ 37664) × (x < 137665)
clear_from x k = let e : x + 0 ≡ x = omega arith in let a = rw e at k.allowed.apart in (a.first, omega (arith, a.second), k.below)

at_37664 : (y : ℕ) → 37664 < y → y ≤ 50672 → IsBelow Clear y (Some 37664)
at_37664 y from to = record { below = from; has = clear 37664 (omega arith) (omega arith) (omega arith); none_between = λ z p q k. omega (arith, clear_from z k) }

at_50672 : (y : ℕ) → 37664 ≤ y → y < 50672 → IsAbove Clear y (Some 50672)
at_50672 y from to = record { above = to; has = clear 50672 (omega arith) (omega arith) (omega arith); none_between = λ z p q k. omega (arith, clear_from z k) }

bounded_short : Bounded short_due
bounded_short =
    let r = plan_a_in_range 0 0 1176 40 in
    record {
      in_range = record {
        rate_1 = r.rate_1;
        propagation_1 = omega arith;
        deadline_0 = (omega arith, omega arith);
        period_0 = omega arith;
        deadline_1 = (omega arith, omega arith);
        period_1 = omega arith;
        octets_1 = (omega arith, omega arith);
      };
      offsets = omega arith;
    }

bounded_periods : Bounded (periods_a 0 700)
bounded_periods = record { in_range = like_a_in_range 0 100000 2352 100001 0 1176 700 (omega arith, omega arith, omega arith, omega arith, omega arith); offsets = omega arith }

-- Plan D, whose route does not fit into one period.
abbrev route : PlanDNumbers
route = route_d 6528 0 1 2

route_words : PeriodsInRangeD route
route_words = record { leg_0 = omega arith; leg_1 = omega arith; leg_2 = omega arith; leg_3 = omega arith }

route_near : (a : ℕ) → a < 4 → Near (plan_d route) a
route_near = plan-d.near route route_words (omega arith)

route_can : CanAsk (plan_d route) 2 1
route_can = record { shape = plan_d_is_well_formed route route_words (omega arith, omega arith); place = record { leg = omega arith; place = omega arith } }

hop_of_route : Nears (plan_d route) 2 1 (Ok (nearest None (Some 177)))
unfolding start_time wire_time hold_time lasting
hop_of_route =
    let f = frame (plan_d route) (omega arith) route_near 2 (omega arith) in
    let p = plain_range_lem 176 1329 (omega arith) (omega arith) in
    near (plan_d route) 2 asked.Hop (Between 176 1329) (plain_range 176 1329) route_can p
    (hop_range (plan_d route) 2 (frame_on (plan_d route) 2) (moving_leg (plan_d route) 2 1 (frame_on (plan_d route) 2) route_can f) 1 2176 176 1329 (plain_range 176 1329)
    (omega arith) refl (ready (plan_d route) (omega arith) route_near 1 (omega arith)) refl refl p)
    176 None (Some 177) f.offset (below_none 176 1329 176 (omega arith)) (above_next 176 1329 176 177 (omega arith) (omega arith) refl)

pub nearest_at_numbers : NearestAtNumbers
unfolding plan wire_time hold_time lasting
nearest_at_numbers =
    let bound : (o2 : ℕ) → o2 ≤ 150000 → Bounded (offsets_b 0 1176 o2) = λ o2 h. bounded_b 1176 o2 (omega arith) in
    record {
      overlap = overlap_2 (offsets_a 0 1176 0) plain None (Some 672) 50000 fifty (omega arith) (omega arith)
          (λ z p k. omega arith)
          (record { above = omega arith; has = record { above = omega arith; below = omega arith; allowed = record { apart = record { first = omega arith; second = omega arith } } }; none_between = λ z p q k. omega (arith, k.allowed.apart.first) });
      overlap_late = overlap_2 (offsets_b 0 1176 37665) (bound 37665 (omega arith)) (Some 37664) (Some 50672) 50000 fifty (omega arith) (omega arith)
          (at_37664 37665 (omega arith) (omega arith)) (at_50672 37665 (omega arith) (omega arith));
      overlap_early = overlap_2 (offsets_b 0 1176 50671) (bound 50671 (omega arith)) (Some 37664) (Some 50672) 50000 fifty (omega arith) (omega arith)
          (at_37664 50671 (omega arith) (omega arith)) (at_50672 50671 (omega arith) (omega arith));
      overlap_last = overlap_2 (offsets_b 0 1176 137664) (bound 137664 (omega arith)) (Some 137663) None 50000 fifty (omega arith) (omega arith)
          (record { below = omega arith; has = clear 137663 (omega arith) (omega arith) (omega arith); none_between = λ z p q k. omega arith })
          (λ z p k. omega (arith, k.below));
      never = overlap_2 (periods_a 0 700) bounded_periods None None 1 coprime (omega arith) (omega arith)
          (λ z p k. omega (arith, k.allowed.apart.second)) (λ z p k. omega (arith, k.allowed.apart.second));
      other_link =
          other_link_2 (offsets_a 0 1176 149328) (bounded_a 0 0 1176 149328 (omega arith)) (Some 149327) None (omega arith)
          (below_next 0 149329 149328 149327 (omega arith) (omega arith) refl) (above_none 0 149329 149328 (omega arith));
      hop = hop_1 (offsets_a 0 1175 0) (bounded_a 0 0 1175 0 (omega arith)) None (Some 1176) (omega arith) (omega arith)
          (below_none 1176 99329 1175 (omega arith)) (above_next 1176 99329 1175 1176 (omega arith) (omega arith) refl);
      hop_late = hop_of_route;
      window = window_1 (offsets_b 0 93281 672) (bounded_b 93281 672 (omega arith)) (Some 93280) None (omega arith)
          (below_next 0 93281 93281 93280 (omega arith) (omega arith) refl) (above_none 0 93281 93281 (omega arith));
      deadline = deadline_1 (due_a 2351 600) (bounded_due_a 2351 600 (omega arith) (omega arith)) (Some 1775) None 1776 (omega arith) (omega arith) refl
          (below_next 0 1776 1776 1775 (omega arith) (omega arith) refl) (above_none 0 1776 1776 (omega arith));
      deadline_only = deadline_2 (offsets_a 0 1176 40) (bounded_a 0 0 1176 40 (omega arith)) (Some 39) (Some 41) (omega arith) (omega arith)
          (below_next 0 149329 40 39 (omega arith) (omega arith) refl) (above_next 0 149329 40 41 (omega arith) (omega arith) refl);
      deadline_lost = lost_2 short_due bounded_short None None (omega arith) (λ z p k. omega (arith, k.below)) (above_none 0 0 40 (omega arith));
      no_place_is = inr (plan_a_is_well_formed 0 1176 0, (refl, refl, λ h. omega (arith, h.place)));
      end = inr (plan_a_is_well_formed 0 1176 0, (refl, refl, λ h. omega (arith, h.leg)));
      no_words = inl (inl (inl (refl, refl, λ h. omega (arith, h))));
    }
