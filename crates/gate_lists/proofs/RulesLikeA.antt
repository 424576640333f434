-- The rules hold of a plan like Plan A where the windows are kept and legs 0 and 2 never meet. Assumes nothing.
use Prim.Native.Nat.{ℕ, zero, suc, ◌+◌, ◌%◌, ◌≤◌, ◌<◌}
use mathlib.Core.Path.{◌≡◌, refl, sym, ◌∙◌, ap}
use mathlib.Core.List.{List}
use mathlib.Core.Logic.{⊎_elim}
use native.Mathlib.Nat.{add_comm, eq-or-lt_of_le}
use native.Mathlib.Omega.{arith}
use Rattle.basics.proofs.Splits.{lt_or_ge}
use Rattle.table.specs.declared.Stream.{Stream}
use Rattle.shape.specs.Streams.{max_period}
use Rattle.shape.specs.Legs.{first_of, end_of}
use Rattle.shape.proofs.Reading.{leg_on, stream_on, stream_on_is}
use Rattle.overlap.specs.Meeting.{NeverMeet}
use Rattle.overlap.specs.Divisor.{IsGcd}
use Rattle.overlap.specs.declared.Slot.{Slot}
use Rattle.overlap.proofs.Law.{divisor_law, meeting_is_symmetric}
use Rattle.rules.specs.Times.{start_of, slot_of, ready_of}
use Rattle.rules.specs.Rules.{Window, Hop, Deadline, RulesHold}
use Rattle.rules.proofs.Said.{window_says, hop_says, deadline_says, overlap_says}
use Rattle.gate_lists.specs.Lists.{MayList}
use Rattle.gate_lists.proofs.ShortFrames.{slot, link_is, start_is, ready_is}
use Rattle.gate_lists.proofs.LikeA as like

module _ (p0 p1 o0 o2 : ℕ) where
  abbrev plan : List ℕ
  plan = like.plan p0 p1 o0 o2

  slot_0 : slot_of plan 0 ≡ slot o0 p0
  slot_0 = like.slot_0 p0 p1 o0 o2

  slot_2 : slot_of plan 2 ≡ slot o2 p1
  slot_2 = like.slot_2 p0 p1 o0 o2

  -- Where the rules hold, legs 0 and 2 never meet.
  pub legs_apart : RulesHold plan → NeverMeet (slot o0 p0) (slot o2 p1)
  legs_apart r = rw (slot_0, slot_2) at ((overlap_says plan 0 2).0 (r.overlap 0 2 (omega arith) (omega arith) (λ e. omega (arith, e))) (link_is plan 0 ∙ sym (link_is plan 2)))

  window : (a o p : ℕ) → slot_of plan a ≡ slot o p → o + 672 ≤ p → Window plan a
  window a o p e h = (window_says plan a).1 (omega (arith, ap (λ (s : Slot). s.offset) e, ap (λ (s : Slot). s.period) e, ap (λ (s : Slot). s.hold) e))

  first : (a : ℕ) → first_of plan a ≡ (stream_on plan a).first
  first a = ap (λ (s : Stream). s.first) (stream_on_is plan a)

  end : (a : ℕ) → end_of plan a ≡ (stream_on plan a).first + (stream_on plan a).count
  end a = omega (arith, first a, ap (λ (s : Stream). s.count) (stream_on_is plan a))

  hops : (a : ℕ) → a < 3 → Hop plan a
  hops zero h = (hop_says plan 0).1 (λ b f e. absurd (omega arith))
  hops (suc zero) h =
      (hop_says plan 1).1 (λ b f e.
      let z : b ≡ 0 = omega arith in
      omega (arith, ap (ready_of plan) z, ready_is plan 0 refl refl refl refl refl, start_is plan 1 refl))
  hops (suc (suc zero)) h = (hop_says plan 2).1 (λ b f e. absurd (omega (arith, first 2)))
  hops (suc (suc (suc a))) h = absurd (omega arith)

  due : (a b : ℕ) → (stream_on plan a).first ≡ b → ready_of plan a ≤ (stream_on plan a).deadline + start_of plan b → Deadline plan a
  due a b e h = (deadline_says plan a).1 (λ l. omega (arith, ap (start_of plan) (first a ∙ e), ap (λ (s : Stream). s.deadline) (stream_on_is plan a)))

  deadlines : (a : ℕ) → a < 3 → Deadline plan a
  deadlines zero h = (deadline_says plan 0).1 (λ l. absurd (omega (arith, end 0)))
  deadlines (suc zero) h = due 1 0 refl (omega (arith, ready_is plan 1 refl refl refl refl refl, start_is plan 0 refl))
  deadlines (suc (suc zero)) h = due 2 2 refl (omega (arith, ready_is plan 2 refl refl refl refl refl, start_is plan 2 refl))
  deadlines (suc (suc (suc a))) h = absurd (omega arith)

  -- The window of leg 1 ends last of those of stream 0.
  module _ (window_1 : 1176 + o0 + 672 ≤ p0) (window_2 : o2 + 672 ≤ p1) (apart : NeverMeet (slot o0 p0) (slot o2 p1)) where
    windows : (a : ℕ) → a < 3 → Window plan a
    windows zero h = window 0 _ _ slot_0 (omega arith)
    windows (suc zero) h = window 1 _ _ (like.slot_1 p0 p1 o0 o2) window_1
    windows (suc (suc zero)) h = window 2 _ _ slot_2 window_2
    windows (suc (suc (suc a))) h = absurd (omega arith)

    -- Only legs 0 and 2 are on one link.
    below : (a b : ℕ) → a < 3 → b < a → (leg_on plan a).link ≡ (leg_on plan b).link → NeverMeet (slot_of plan a) (slot_of plan b)
    below zero b h k l = absurd (omega arith)
    below (suc zero) zero h k l = absurd (omega (arith, l))
    below (suc zero) (suc b) h k l = absurd (omega arith)
    below (suc (suc zero)) zero h k l = rw (slot_0, slot_2) (meeting_is_symmetric _ _ apart)
    below (suc (suc zero)) (suc zero) h k l = absurd (omega (arith, l))
    below (suc (suc zero)) (suc (suc b)) h k l = absurd (omega arith)
    below (suc (suc (suc a))) b h k l = absurd (omega arith)

    never : (a b : ℕ) → a < 3 → b < 3 → (a ≡ b → ⊥) → (leg_on plan a).link ≡ (leg_on plan b).link → NeverMeet (slot_of plan a) (slot_of plan b)
    never a b h k n l =
        ⊎_elim
        (λ (lt : a < b). meeting_is_symmetric _ _ (below b a k lt (sym l)))
        (λ (ge : b ≤ a). ⊎_elim (λ (e : b ≡ a). absurd (n (sym e))) (λ (lt : b < a). below a b h lt l) (eq-or-lt_of_le {n = b} {m = a} ge))
        (lt_or_ge a b)

    rules : RulesHold plan
    rules = record {
      window = windows;
      hop = hops;
      deadline = deadlines;
      overlap = λ a b h k n. (overlap_says plan a b).1 (λ l. never a b h k n (sym (link_is plan a) ∙ l ∙ link_is plan b));
    }

-- Where leg 2 begins just when leg 0 and the gap after it end, both fit into the divisor of their periods.
module _ (p0 p1 o0 g : ℕ) (divisor : IsGcd p0 p1 g) (long : 1344 ≤ g) where
  apart : 1 ≤ p0 → 1 ≤ p1 → NeverMeet (slot o0 p0) (slot (672 + o0) p1)
  apart some also =
      (divisor_law (slot o0 p0) (slot (672 + o0) p1) g 672 some also (omega arith) (omega arith) divisor
      (record { below = omega arith; same = ap (λ (n : ℕ). n % g) (add_comm o0 672) })
      ).1 (record { first = omega arith; second = omega arith })

  pub may_list : (1848 + o0 ≤ p0) × (p0 ≤ max_period) → (1344 + o0 ≤ p1) × (p1 ≤ max_period) → (l : ℕ) → l < 2 → MayList (like.plan p0 p1 o0 (672 + o0)) l
  may_list stream_0 stream_1 l h = record {
    shape = like.well_formed p0 p1 o0 (672 + o0) (omega arith, stream_0.1) (omega arith, stream_1.1);
    link = h;
    rules = rules p0 p1 o0 (672 + o0) (omega arith) (omega arith) (apart (omega arith) (omega arith));
  }
