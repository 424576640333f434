-- Margins of Plan A, Plan B and their neighbours: the numbers of their frames. Assumes nothing.
use Prim.Native.Nat.{ℕ, ◌+◌, ◌≤◌, ◌<◌}
use mathlib.Core.Path.{◌≡◌, refl, sym, ap, subst}
use mathlib.Core.List.{List}
use mathlib.Core.Logic.{inl, inr}
use native.Mathlib.Nat.{dvd-sub}
use native.Mathlib.Omega.{arith}
use Rattle.table.specs.PlanA.{PlanNumbers, plan_with, offsets_a, due_a, offsets_b}
use Rattle.shape.proofs.AtNumbers.{like_a_in_range, like_b_in_range, plans_are_well_formed, plan_a_is_well_formed}
use Rattle.overlap.specs.Divisor.{IsGcd, IsRemainder}
use Rattle.rules.specs.Times.{wire_time, hold_time, lasting, start_of}
use Rattle.rules.specs.Places.{places_of, place_of}
use Rattle.rules.specs.declared.Asked.{Asked}
use Rattle.rules.specs.declared.Asked.TheVariants as asked
use Rattle.rules.proofs.Asking.{places_are_asked}
use Rattle.rules.proofs.CasePlans.{Bounded, plan, h0, h1, h2, r1, f0, f1, f2, is_0, is_1, is_2, ready_0, ready_of_lem}
use Rattle.rules.proofs.CasePlaces.{bounded_a}
use Rattle.margins.specs.Asking.{CanAsk}
use Rattle.margins.specs.Margins.{AskedMargin, MarginOf, Margins}
use Rattle.margins.specs.Spares.{IsSpare}
use Rattle.margins.specs.AtNumbers.{sides, turns, at, MarginsAtNumbers}
use Rattle.margins.specs.declared.Margin.{Margin}
use Rattle.margins.specs.declared.Margin.TheVariants as margin
use Rattle.margins.specs.declared.Spare.{Spare}
use Rattle.margins.specs.declared.Spare.TheVariants as spare
use Rattle.margins.proofs.Numbering.{overlap_turns}

-- An answer of the place of what is asked.
pub answered : (t : List ℕ) (a : ℕ) (q : Asked) (m : Margin) (s : Spare) → CanAsk t a (place_of q) → AskedMargin t a q m → IsSpare m s → Margins t a (place_of q) (at m s)
unfolding MarginOf
answered t a q m s c is left = (c, subst (λ (z : Asked). AskedMargin t a z m) (sym (places_are_asked.there q)) is, left)

-- What is left, and what is lacking, of two sides and of two legs that take turns.
sides_left : (needs n : ℕ) → IsSpare (sides needs (needs + n)) (spare.Left n)
sides_left needs n = record { kept = omega arith; most = λ k h. omega arith }

sides_lack : (has n : ℕ) → 0 < n → IsSpare (sides (has + n) has) (spare.Lacks n)
sides_lack has n some = record { broken = λ h. omega arith; enough = omega arith; least = λ k h. omega arith }

turns_left_after : (d r h o n : ℕ) → r + o + n ≡ d → h + n ≤ r → IsSpare (turns d r h o) (spare.Left n)
turns_left_after d r h o n e l = record { kept = (omega arith, omega arith); most = λ k w. omega (arith, w.1) }

turns_left_before : (d r h o n : ℕ) → h + n ≡ r → r + o + n ≤ d → IsSpare (turns d r h o) (spare.Left n)
turns_left_before d r h o n e l = record { kept = (omega arith, omega arith); most = λ k w. omega (arith, w.0) }

turns_lack_first : (d r h o n : ℕ) → 0 < n → h ≡ r + n → o + r ≤ d + n → IsSpare (turns d r h o) (spare.Lacks n)
turns_lack_first d r h o n some e l = record { broken = λ k. omega (arith, k.0); enough = (omega arith, omega arith); least = λ k w. omega (arith, w.0) }

turns_lack_second : (d r h o n : ℕ) → 0 < n → o + r ≡ d + n → h ≤ r + n → IsSpare (turns d r h o) (spare.Lacks n)
turns_lack_second d r h o n some e l = record { broken = λ k. omega (arith, k.1); enough = (omega arith, omega arith); least = λ k w. omega (arith, w.1) }

fifty : IsGcd 150000 100000 50000
fifty = record { left = ∣ (3, refl) ∣₁; right = ∣ (2, refl) ∣₁; greatest = λ d p q. dvd-sub d p q }

module _ (n : PlanNumbers) (b : Bounded n) where
  pub can : (a p : ℕ) → a < 3 → p < places_of a → CanAsk (plan_with n) a p
  can a p h l = record { shape = plans_are_well_formed n b.in_range; place = record { leg = h; place = l } }

  window_1 : (s : Spare) → IsSpare (sides (n.offset_1 + h1 n) n.period_0) s → Margins (plan_with n) 1 0 (at (sides (n.offset_1 + h1 n) n.period_0) s)
  unfolding plan f1
  window_1 s left =
      let is = is_1 n b in
      answered (plan_with n) 1 asked.Window _ s (can 1 0 (omega arith) (omega arith)) (record { needs = omega (arith, is.offset, is.hold.same); has = is.period }) left

  hop_1 : (s : Spare) → IsSpare (sides (n.offset_0 + 1176) n.offset_1) s → Margins (plan_with n) 1 1 (at (sides (n.offset_0 + 1176) n.offset_1) s)
  unfolding plan f1
  hop_1 s left =
      let is = is_1 n b in
      answered (plan_with n) 1 asked.Hop _ s (can 1 1 (omega arith) (omega arith))
      (record { previous = 0; in_stream = omega (arith, is.first); next = refl; needs = (ready_0 n b).same; has = is.start }) left

  deadline_1 : (s : Spare) → IsSpare (sides (r1 n) (n.deadline_0 + n.offset_0)) s → Margins (plan_with n) 1 2 (at (sides (r1 n) (n.deadline_0 + n.offset_0)) s)
  unfolding plan f0 f1
  deadline_1 s left =
      let is = is_1 n b in
      let r = ready_of_lem (plan_with n) 1 (f1 n) is (omega arith) in
      let first = is_0 n b in
      answered (plan_with n) 1 asked.Deadline _ s (can 1 2 (omega arith) (omega arith))
      (record { last = is.end; needs = omega (arith, r.same); has = omega (arith, is.deadline, first.start, ap (start_of (plan_with n)) is.first) }) left

  no_hop_0 : Margins (plan_with n) 0 1 (at margin.Free spare.Free)
  unfolding plan f0
  no_hop_0 = answered (plan_with n) 0 asked.Hop margin.Free spare.Free (can 0 1 (omega arith) (omega arith)) (is_0 n b).first refl

  no_deadline_0 : Margins (plan_with n) 0 2 (at margin.Free spare.Free)
  unfolding plan f0
  no_deadline_0 = answered (plan_with n) 0 asked.Deadline margin.Free spare.Free (can 0 2 (omega arith) (omega arith)) (λ e. omega (arith, e, (is_0 n b).end)) refl

  other_link_21 : Margins (plan_with n) 2 4 (at margin.Free spare.Free)
  unfolding plan f1 f2
  other_link_21 =
      answered (plan_with n) 2 (asked.Overlap 1) margin.Free spare.Free (can 2 4 (omega arith) (omega arith)) (λ e. omega (arith, e, (is_1 n b).link, (is_2 n b).link)) refl

  overlap_20 : (r : ℕ) (s : Spare) → n.period_0 ≡ 100000 → n.period_1 ≡ 150000 → IsRemainder n.offset_2 n.offset_0 50000 r
      → IsSpare (turns 50000 r (h2 n) (h0 n)) s → Margins (plan_with n) 2 3 (at (turns 50000 r (h2 n) (h0 n)) s)
  unfolding plan f0 f2
  overlap_20 r s p0 p1 rest left =
      answered (plan_with n) 2 (asked.Overlap 0) _ s (can 2 3 (omega arith) (omega arith))
      (overlap_turns (plan_with n) 2 0 50000 r (f2 n) (f0 n) (is_2 n b) (is_0 n b) refl (rw (p0, p1) fifty) rest).numbers left

pub bounded_b : (o1 o2 : ℕ) → o1 + o2 ≤ 200000 → Bounded (offsets_b 0 o1 o2)
bounded_b o1 o2 h = record { in_range = like_b_in_range 7736 0 o1 o2 (omega arith, omega arith); offsets = omega arith }

pub bounded_due_a : (d later : ℕ) → 1 ≤ d → d + later ≤ 100000 → Bounded (due_a d later)
bounded_due_a d later from to = record { in_range = like_a_in_range 0 100000 d 150000 later (1176 + later) 0 (from, omega arith, omega arith, omega arith, omega arith); offsets = omega arith }

pub plain : Bounded (offsets_a 0 1176 0)
plain = bounded_a 0 0 1176 0 (omega arith)

pub margins_at_numbers : MarginsAtNumbers
unfolding plan wire_time hold_time lasting
margins_at_numbers = record {
  overlap = overlap_20 (offsets_a 0 1176 0) plain 0 (spare.Lacks 672) refl refl (record { below = omega arith; same = refl }) (turns_lack_first 50000 0 672 672 672 (omega arith) refl (omega arith));
  overlap_late = overlap_20 (offsets_b 0 1176 37665) (bounded_b _ _ (omega arith)) 12335 (spare.Lacks 1) refl refl (record { below = omega arith; same = refl }) (turns_lack_first 50000 12335 12336 672 1 (omega arith) refl (omega arith));
  overlap_early = overlap_20 (offsets_b 0 1176 671) (bounded_b _ _ (omega arith)) 49329 (spare.Lacks 1) refl refl (record { below = omega arith; same = refl }) (turns_lack_second 50000 49329 12336 672 1 (omega arith) refl (omega arith));
  overlap_kept = overlap_20 (offsets_b 0 1176 700) (bounded_b _ _ (omega arith)) 49300 (spare.Left 28) refl refl (record { below = omega arith; same = refl }) (turns_left_after 50000 49300 12336 672 28 refl (omega arith));
  overlap_before = overlap_20 (offsets_b 0 1176 37600) (bounded_b _ _ (omega arith)) 12400 (spare.Left 64) refl refl (record { below = omega arith; same = refl }) (turns_left_before 50000 12400 12336 672 64 refl (omega arith));
  other_link = other_link_21 (offsets_a 0 1176 0) plain;
  window = window_1 (offsets_b 0 1176 672) (bounded_b _ _ (omega arith)) (spare.Left 92104) (sides_left 7896 92104);
  window_late = window_1 (offsets_b 0 93281 672) (bounded_b _ _ (omega arith)) (spare.Lacks 1) (sides_lack 100000 1 (omega arith));
  hop = hop_1 (offsets_a 0 1175 0) (bounded_a 0 0 1175 0 (omega arith)) (spare.Lacks 1) (sides_lack 1175 1 (omega arith));
  no_hop = no_hop_0 (offsets_a 0 1176 0) plain;
  deadline = deadline_1 (due_a 2351 600) (bounded_due_a 2351 600 (omega arith) (omega arith)) (spare.Lacks 1) (sides_lack 2951 1 (omega arith));
  no_deadline = no_deadline_0 (offsets_a 0 1176 0) plain;
  no_place_is = inr (plan_a_is_well_formed 0 1176 0, (refl, refl, λ h. omega (arith, h.place)));
  end = inr (plan_a_is_well_formed 0 1176 0, (refl, refl, λ h. omega (arith, h.leg)));
  no_words = inl (inl (inl (refl, refl, λ h. omega (arith, h))));
}
