-- The plans of the cases: each of their legs is a frame, of which the laws of the rules' tests say whether the rule holds. Assumes nothing.
use Prim.Native.Nat.{ℕ, ◌+◌, ◌≤◌, ◌<◌}
use mathlib.Core.Path.{◌≡◌, refl, sym, ap}
use mathlib.Core.List.{List}
use native.Mathlib.Omega.{arith}
use Rattle.numbers.specs.Number.{max_word}
use Rattle.table.specs.Layout.{precision_of, max_precision}
use Rattle.table.specs.Records.{leg_at}
use Rattle.table.specs.PlanA.{PlanNumbers, plan_with, PlanReadsSo}
use Rattle.table.specs.declared.Link.{Link}
use Rattle.table.specs.declared.Stream.{Stream}
use Rattle.table.specs.declared.Leg.{Leg}
use Rattle.table.proofs.PartLaws.{plans_read_so}
use Rattle.shape.specs.Links.{max_propagation}
use Rattle.shape.specs.Legs.{link_of, stream_of}
use Rattle.shape.specs.Theorems.{NumbersInRange}
use Rattle.shape.proofs.Rates.{rate_small}
use Rattle.shape.proofs.Reading.{link_on, stream_of_lem, link_on_is}
use Rattle.overlap.specs.Meeting.{NeverMeet}
use Rattle.overlap.specs.declared.Slot.{Slot}
use Rattle.overlap.proofs.Law.{meeting_is_symmetric}
use Rattle.rules.specs.Times.{start_time, wire_time, hold_time, lasting, max_time, start_of}
use Rattle.rules.specs.Rules.{Window, Hop, Deadline, Overlap}
use Rattle.rules.specs.Steps.{Timed, StartsAt, FrameOf, ReadyOf, SlotOf}
use Rattle.rules.specs.declared.Frame.{Frame}
use Rattle.rules.proofs.Judging.{window_kept, window_broken, first_has_no_hop, hop_kept, hop_broken, not_last_has_no_deadline, deadline_kept, late_last_leg, other_links_never_meet, overlap_says_of}

-- The frame of a leg whose record, stream and link are known, which starts at b, and whose frame is on the wire for w and holds its link for h.
abbrev pub frame_with : Leg → Stream → Link → ℕ → ℕ → ℕ → Frame
frame_with l s k b w h = record {
  offset = l.offset;
  start = b;
  wire = w;
  hold = h;
  propagation = k.propagation;
  link = l.link;
  period = s.period;
  deadline = s.deadline;
  first = s.first;
  end = s.first + s.count;
}

-- Numbers within their bounds.
pub record Small (l : Leg) (s : Stream) (k : Link) : Type 0 where
  pub offset : l.offset ≤ max_word
  pub period : (1 ≤ s.period) × (s.period ≤ max_word)
  pub deadline : s.deadline ≤ max_word
  pub propagation : k.propagation ≤ max_propagation

-- A leg of its first period starts at its offset.
in_period : (offset period : ℕ) → offset ≤ max_word → StartsAt (start_time offset 0 period) offset
unfolding start_time
in_period offset period h = record { same = omega arith; small = omega arith }

-- A time that is some and small.
pub timed : (w : ℕ) → 1 ≤ w → w ≤ max_time → Timed w w
timed w some small = record { same = refl; from = some; to = small }

pub frame_of : (t : List ℕ) (a : ℕ) (l : Leg) (s : Stream) (k : Link) (b w h : ℕ)
    → leg_at t a ≡ l → stream_of t a ≡ s → link_of t a ≡ k → StartsAt (start_time l.offset l.periods s.period) b → Timed (wire_time s.octets k.rate) w → Timed (hold_time s.octets k.rate) h → Small l s k
    → FrameOf t a (frame_with l s k b w h)
unfolding start_of
frame_of t a l s k b w h e f g starts on-wire holds small =
    let o = ap (λ (z : Leg). z.offset) e in
    let n = ap (λ (z : Leg). z.periods) e in
    let p = ap (λ (z : Stream). z.period) f in
    let q = starts.same in
    let at_start : b ≡ start_time (leg_at t a).offset (leg_at t a).periods (stream_of t a).period = cc in
    record {
      offset = sym (ap (λ (z : Leg). z.offset) e);
      start = at_start;
      near = small.offset;
      small = starts.small;
      wire = rw (f, g) on-wire;
      hold = rw (f, g) holds;
      propagation = sym (ap (λ (z : Link). z.propagation) g);
      short = small.propagation;
      link = sym (ap (λ (z : Leg). z.link) e);
      period = sym (ap (λ (z : Stream). z.period) f);
      deadline = sym (ap (λ (z : Stream). z.deadline) f);
      first = sym (ap (λ (z : Stream). z.first) f);
      end = omega (arith, ap (λ (z : Stream). z.first) f, ap (λ (z : Stream). z.count) f);
      repeats = small.period;
      due = small.deadline;
    }

pub ready_of_lem : (t : List ℕ) (a : ℕ) (f : Frame) → FrameOf t a f → precision_of t ≤ max_precision → ReadyOf t a (f.start + f.wire + f.propagation + precision_of t)
ready_of_lem t a f is p = record {
  same = omega (arith, is.start, is.wire.same, is.propagation);
  small = omega (arith, is.small, is.wire.to, is.short);
}

pub slot_of : (t : List ℕ) (a : ℕ) (f : Frame) → FrameOf t a f → SlotOf t a (record { offset = f.offset; period = f.period; hold = f.hold })
slot_of t a f is = record {
  offset = is.offset;
  period = is.period;
  hold = is.hold.same;
  repeats = record { period_from = is.repeats.0; period_to = is.repeats.1; hold = is.hold.from };
}

-- Numbers in range, and offsets that are far below a word: with them a plan's frames are bounded.
pub record Bounded (n : PlanNumbers) : Type 0 where
  pub in_range : NumbersInRange n
  pub offsets : n.offset_0 + n.offset_1 + n.offset_2 ≤ max_time

-- A plan of the cases: the frames of its three legs.
module _ (n : PlanNumbers) where
  unfoldable pub plan : List ℕ
  plan = plan_with n

  pub reads : PlanReadsSo n
  reads = plans_read_so n

  -- How long the frames of stream 0 are on the wire of links 0 and 1, and that of stream 1 on that of link 0; and how long each holds its link.
  abbrev pub w0 : ℕ
  w0 = wire_time 64 (link_on (plan_with n) 0).rate

  abbrev pub w1 : ℕ
  w1 = wire_time 64 n.rate_1

  abbrev pub w2 : ℕ
  w2 = wire_time n.octets_1 (link_on (plan_with n) 2).rate

  abbrev pub h0 : ℕ
  h0 = hold_time 64 (link_on (plan_with n) 0).rate

  abbrev pub h1 : ℕ
  h1 = hold_time 64 n.rate_1

  abbrev pub h2 : ℕ
  h2 = hold_time n.octets_1 (link_on (plan_with n) 2).rate

  -- When legs 1 and 2 are ready: after their own wire time and propagation, and the precision.
  abbrev pub r1 : ℕ
  r1 = n.offset_1 + w1 + n.propagation_1 + 100

  abbrev pub r2 : ℕ
  r2 = n.offset_2 + w2 + 600

  unfoldable pub f0 : Frame
  f0 = record { offset = n.offset_0; start = n.offset_0; wire = w0; hold = h0; propagation = 500; link = 0; period = n.period_0; deadline = n.deadline_0; first = 0; end = 2 }

  unfoldable pub f1 : Frame
  f1 = record { offset = n.offset_1; start = n.offset_1; wire = w1; hold = h1; propagation = n.propagation_1; link = 1; period = n.period_0; deadline = n.deadline_0; first = 0; end = 2 }

  unfoldable pub f2 : Frame
  f2 = record { offset = n.offset_2; start = n.offset_2; wire = w2; hold = h2; propagation = 500; link = 0; period = n.period_1; deadline = n.deadline_1; first = 2; end = 3 }

  pub stream_0 : stream_of plan 0 ≡ record { period = n.period_0; deadline = n.deadline_0; octets = 64; first = 0; count = 2 }
  unfolding plan
  stream_0 = stream_of_lem plan 0 0 _ _ reads.leg_0 refl reads.stream_0

  pub stream_2 : stream_of plan 2 ≡ record { period = n.period_1; deadline = n.deadline_1; octets = n.octets_1; first = 2; count = 1 }
  unfolding plan
  stream_2 = stream_of_lem plan 2 1 _ _ reads.leg_2 refl reads.stream_1

  pub link_0 : link_of plan 0 ≡ link_on (plan_with n) 0
  unfolding plan
  link_0 = link_on_is plan 0

  pub link_2 : link_of plan 2 ≡ link_on (plan_with n) 2
  unfolding plan
  link_2 = link_on_is plan 2

  abbrev pub slot_0 : Slot
  slot_0 = record { offset = n.offset_0; period = n.period_0; hold = h0 }

  abbrev pub slot_2 : Slot
  slot_2 = record { offset = n.offset_2; period = n.period_1; hold = h2 }

  module _ (b : Bounded n) where
    pub is_0 : FrameOf plan 0 f0
    unfolding plan f0 wire_time hold_time lasting
    is_0 =
        frame_of plan 0 _ _ _ _ w0 h0 reads.leg_0 stream_0 link_0 (in_period _ _ (omega (arith, b.offsets))) (timed w0 (omega arith) (omega arith)) (timed h0 (omega arith) (omega arith))
        (record {
          offset = omega (arith, b.offsets);
          period = (omega (arith, b.in_range.deadline_0), omega (arith, b.in_range.period_0));
          deadline = omega (arith, b.in_range.deadline_0, b.in_range.period_0);
          propagation = omega arith;
        })

    pub is_1 : FrameOf plan 1 f1
    unfolding plan f1 wire_time hold_time lasting
    is_1 =
        let r = rate_small n.rate_1 b.in_range.rate_1 in
        frame_of plan 1 _ _ _ _ w1 h1 reads.leg_1 (stream_of_lem plan 1 0 _ _ reads.leg_1 refl reads.stream_0) (link_on_is plan 1)
        (in_period _ _ (omega (arith, b.offsets))) (timed w1 (omega (arith, r)) (omega (arith, r))) (timed h1 (omega (arith, r)) (omega (arith, r)))
        (record {
          offset = omega (arith, b.offsets);
          period = (omega (arith, b.in_range.deadline_0), omega (arith, b.in_range.period_0));
          deadline = omega (arith, b.in_range.deadline_0, b.in_range.period_0);
          propagation = b.in_range.propagation_1;
        })

    pub is_2 : FrameOf plan 2 f2
    unfolding plan f2 wire_time hold_time lasting
    is_2 =
        let o = b.in_range.octets_1 in
        frame_of plan 2 _ _ _ _ w2 h2 reads.leg_2 stream_2 link_2 (in_period _ _ (omega (arith, b.offsets))) (timed w2 (omega (arith, o)) (omega (arith, o))) (timed h2 (omega (arith, o)) (omega (arith, o)))
        (record {
          offset = omega (arith, b.offsets);
          period = (omega (arith, b.in_range.deadline_1), omega (arith, b.in_range.period_1));
          deadline = omega (arith, b.in_range.deadline_1, b.in_range.period_1);
          propagation = omega arith;
        })

    pub window_0 : n.offset_0 + h0 ≤ n.period_0 → Window plan 0
    unfolding f0
    window_0 le = window_kept plan 0 f0 is_0 le

    pub window_0_broken : n.period_0 < n.offset_0 + h0 → Window plan 0 → ⊥
    unfolding f0
    window_0_broken lt = window_broken plan 0 f0 is_0 lt

    pub window_1 : n.offset_1 + h1 ≤ n.period_0 → Window plan 1
    unfolding f1
    window_1 le = window_kept plan 1 f1 is_1 le

    pub window_1_broken : n.period_0 < n.offset_1 + h1 → Window plan 1 → ⊥
    unfolding f1
    window_1_broken lt = window_broken plan 1 f1 is_1 lt

    pub window_2 : n.offset_2 + h2 ≤ n.period_1 → Window plan 2
    unfolding f2
    window_2 le = window_kept plan 2 f2 is_2 le

    pub window_2_broken : n.period_1 < n.offset_2 + h2 → Window plan 2 → ⊥
    unfolding f2
    window_2_broken lt = window_broken plan 2 f2 is_2 lt

    pub ready_0 : ReadyOf plan 0 (n.offset_0 + 1176)
    unfolding plan f0 wire_time lasting
    ready_0 = let r = ready_of_lem plan 0 f0 is_0 (omega arith) in record { same = omega (arith, r.same); small = omega (arith, r.small) }

    ready_1 : ReadyOf plan 1 r1
    unfolding plan f1
    ready_1 = let r = ready_of_lem plan 1 f1 is_1 (omega arith) in record { same = omega (arith, r.same); small = omega (arith, r.small) }

    ready_2 : ReadyOf plan 2 r2
    unfolding plan f2
    ready_2 = let r = ready_of_lem plan 2 f2 is_2 (omega arith) in record { same = omega (arith, r.same); small = omega (arith, r.small) }

    pub hop_0 : Hop plan 0
    unfolding f0
    hop_0 = first_has_no_hop plan 0 f0 is_0 (omega arith)

    pub hop_2 : Hop plan 2
    unfolding f2
    hop_2 = first_has_no_hop plan 2 f2 is_2 (omega arith)

    pub hop_1 : n.offset_0 + 1176 ≤ n.offset_1 → Hop plan 1
    unfolding f1
    hop_1 le = hop_kept plan 1 0 _ f1 is_1 refl ready_0 le

    pub hop_1_broken : n.offset_1 < n.offset_0 + 1176 → Hop plan 1 → ⊥
    unfolding f1
    hop_1_broken lt = hop_broken plan 1 0 _ f1 is_1 (omega arith) refl ready_0 lt

    pub deadline_0 : Deadline plan 0
    unfolding f0
    deadline_0 = not_last_has_no_deadline plan 0 f0 is_0 (omega arith)

    pub deadline_1 : r1 ≤ n.deadline_0 + n.offset_0 → Deadline plan 1
    unfolding f0 f1
    deadline_1 le = deadline_kept plan 1 _ f1 f0 is_1 is_0 ready_1 le

    pub deadline_1_broken : n.deadline_0 + n.offset_0 < r1 → Deadline plan 1 → ⊥
    unfolding f0 f1
    deadline_1_broken lt = late_last_leg plan 1 _ f1 f0 is_1 is_0 ready_1 refl lt

    pub deadline_2 : r2 ≤ n.deadline_1 + n.offset_2 → Deadline plan 2
    unfolding f2
    deadline_2 le = deadline_kept plan 2 _ f2 f2 is_2 is_2 ready_2 le

    pub overlap_10 : Overlap plan 1 0
    unfolding f0 f1
    overlap_10 = other_links_never_meet plan 1 0 0 f1 is_1 is_0.link (λ e. absurd (omega (arith, e)))

    pub overlap_21 : Overlap plan 2 1
    unfolding f1 f2
    overlap_21 = other_links_never_meet plan 2 1 1 f2 is_2 is_1.link (λ e. absurd (omega (arith, e)))

    pub overlap_20 : NeverMeet slot_0 slot_2 → Overlap plan 2 0
    unfolding f0 f2
    overlap_20 m =
        (overlap_says_of plan 2 0 0 f2 _ _ is_2 is_0.link refl (slot_of plan 2 f2 is_2) (slot_of plan 0 f0 is_0)).0 (meeting_is_symmetric slot_0 slot_2 m)

    pub overlap_20_broken : (NeverMeet slot_0 slot_2 → ⊥) → Overlap plan 2 0 → ⊥
    unfolding f0 f2
    overlap_20_broken m o =
        m
        (meeting_is_symmetric
        slot_2
        slot_0
        ((overlap_says_of plan 2 0 0 f2 _ _ is_2 is_0.link refl (slot_of plan 2 f2 is_2) (slot_of plan 0 f0 is_0)).1 o))
