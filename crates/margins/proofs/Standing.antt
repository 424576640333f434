-- A leg at another offset: what its rules ask there, in numbers of the table as it is. Assumes nothing.
use Prim.Native.Nat.{ℕ, ◌+◌, ◌*◌, ◌≤◌, ◌<◌}
use mathlib.Core.Path.{◌≡◌, ◌∙◌, sym, ap}
use mathlib.Core.List.{List}
use native.Mathlib.Omega.{arith}
use Rattle.table.specs.Layout.{leg_count}
use Rattle.table.specs.Records.{leg_at, move_to}
use Rattle.table.specs.declared.Link.{Link}
use Rattle.table.specs.declared.Move.{Move}
use Rattle.table.specs.declared.Stream.{Stream}
use Rattle.table.proofs.Moved.{moved_offset, moved_periods, moved_other}
use Rattle.shape.specs.Legs.{stream_of, first_of, end_of}
use Rattle.shape.specs.Shape.{WellFormedTable}
use Rattle.shape.specs.Moves.{SameButMoved}
use Rattle.shape.proofs.Moved.{moved_same}
use Rattle.overlap.specs.Meeting.{NeverMeet}
use Rattle.overlap.specs.declared.Slot.{Slot}
use Rattle.rules.specs.Times.{start_time, hold_of, offset_of, start_of, ready_of, slot_of}
use Rattle.rules.specs.Rules.{Window, Hop, Deadline, Overlap}
use Rattle.rules.proofs.Staying.{stream, link, first, end, period, hold, wire, start, ready, slot}
use Rattle.margins.specs.Nearest.{with_offset}

pub starts_late : (t : List ℕ) (a : ℕ) → offset_of t a ≤ start_of t a
unfolding start_of start_time
starts_late t a = omega arith

module _ (t : List ℕ) (a : ℕ) (w : WellFormedTable t) (h : a < leg_count t) (x : ℕ) where
  abbrev move : Move
  move = move_to a x (leg_at t a).periods

  abbrev u : List ℕ
  u = with_offset t a x

  same : SameButMoved t u
  same = moved_same t w move h (w.legs a h).in_range.periods

  offset_there : offset_of u a ≡ x
  offset_there = moved_offset t w.sized move h

  other : (b : ℕ) → b < leg_count t → (b ≡ a → ⊥) → leg_at t b ≡ leg_at u b
  other b l n = sym (moved_other t w.sized move h b l n)

  -- The leg starts, and is ready, as much later as its offset is.
  start_there : start_of u a + offset_of t a ≡ start_of t a + x
  unfolding start_of start_time
  start_there =
      let n = moved_periods t w.sized move h in
      let p = period t u w same a h in
      let late : (leg_at u a).periods * (stream_of u a).period ≡ (leg_at t a).periods * (stream_of t a).period = cc in
      omega (arith, offset_there)

  ready_there : ready_of u a + offset_of t a ≡ ready_of t a + x
  ready_there = omega (arith, start_there, wire t u w same a h, ap (λ (k : Link). k.propagation) (link t u w same a h), same.precision)

  pub window_to : x + hold_of t a ≤ (stream_of t a).period → Window u a
  unfolding Window
  window_to le = omega (arith, offset_there, hold t u w same a h, period t u w same a h)

  pub window_from : Window u a → x + hold_of t a ≤ (stream_of t a).period
  unfolding Window
  window_from k = omega (arith, k, offset_there, hold t u w same a h, period t u w same a h)

  pub hop_first : a ≤ first_of t a → Hop u a
  unfolding Hop
  hop_first le b from next = absurd (omega (arith, first t u w same a h))

  module _ (b : ℕ) (next : a ≡ b + 1) where
    previous_there : ready_of t b ≡ ready_of u b
    previous_there = ready t u w same b (omega arith) (other b (omega arith) (λ e. omega arith))

    pub hop_to : ready_of t b + offset_of t a ≤ start_of t a + x → Hop u a
    unfolding Hop
    hop_to le c from also =
        let e : b ≡ c = omega arith in
        omega (arith, start_there, previous_there, ap (ready_of u) e)

    pub hop_from : first_of t a ≤ b → Hop u a → ready_of t b + offset_of t a ≤ start_of t a + x
    unfolding Hop
    hop_from from k = omega (arith, start_there, previous_there, k b (omega (arith, first t u w same a h)) next)

  pub deadline_not_last : a + 1 < end_of t a → Deadline u a
  unfolding Deadline
  deadline_not_last lt e = absurd (omega (arith, end t u w same a h))

  due_there : (stream_of t a).deadline ≡ (stream_of u a).deadline
  due_there = ap (λ (s : Stream). s.deadline) (stream t u w same a h)

  -- The first leg is another: it stays where it is.
  module _ (many : first_of t a < a) where
    first_there : start_of t (first_of t a) ≡ start_of u (first_of u a)
    first_there = start t u w same (first_of t a) (omega arith) (other (first_of t a) (omega arith) (λ e. omega arith)) ∙ ap (start_of u) (first t u w same a h)

    pub deadline_to : ready_of t a + x ≤ (stream_of t a).deadline + start_of t (first_of t a) + offset_of t a → Deadline u a
    unfolding Deadline
    deadline_to le last = omega (arith, ready_there, due_there, first_there)

    pub deadline_from : a + 1 ≡ end_of t a → Deadline u a → ready_of t a + x ≤ (stream_of t a).deadline + start_of t (first_of t a) + offset_of t a
    unfolding Deadline
    deadline_from last k = omega (arith, ready_there, due_there, first_there, k (omega (arith, end t u w same a h)))

  -- The first leg is the leg itself: both sides move together.
  module _ (only : first_of t a ≡ a) where
    self_there : start_of u (first_of u a) ≡ start_of u a
    self_there = ap (start_of u) (sym (first t u w same a h) ∙ only)

    self_here : start_of t (first_of t a) ≡ start_of t a
    self_here = ap (start_of t) only

    pub deadline_only_to : ready_of t a ≤ (stream_of t a).deadline + start_of t (first_of t a) → Deadline u a
    unfolding Deadline
    deadline_only_to le last = omega (arith, ready_there, start_there, due_there, self_there, self_here)

    pub deadline_only_from : a + 1 ≡ end_of t a → Deadline u a → ready_of t a ≤ (stream_of t a).deadline + start_of t (first_of t a)
    unfolding Deadline
    deadline_only_from last k = omega (arith, ready_there, start_there, due_there, self_there, self_here, k (omega (arith, end t u w same a h)))

  -- Overlap with another leg.
  abbrev pub slot_at : Slot
  slot_at = record { offset = x; period = (stream_of t a).period; hold = hold_of t a }

  slot_there : slot_of u a ≡ slot_at
  slot_there = let o = offset_there in let p = period t u w same a h in let k = hold t u w same a h in cc

  module _ (b : ℕ) (below : b < a) where
    other_slot : slot_of t b ≡ slot_of u b
    other_slot = slot t u w same b (omega arith) (other b (omega arith) (λ e. omega arith))

    pub other_links : ((leg_at t a).link ≡ (leg_at t b).link → ⊥) → Overlap u a b
    unfolding Overlap
    other_links n e = absurd (n (same.leg_link a h ∙ e ∙ sym (same.leg_link b (omega arith))))

    pub overlap_to : NeverMeet slot_at (slot_of t b) → Overlap u a b
    unfolding Overlap
    overlap_to n e = rw (sym slot_there, other_slot) at n

    pub overlap_from : (leg_at t a).link ≡ (leg_at t b).link → Overlap u a b → NeverMeet slot_at (slot_of t b)
    unfolding Overlap
    overlap_from e k =
        let n = k (sym (same.leg_link a h) ∙ e ∙ same.leg_link b (omega arith)) in
        rw (slot_there, sym other_slot) at n
