-- The rules hold of a converted table exactly when they hold of the old numbers: each record reads as it did, and every leg starts at its offset. Assumes nothing.
use Prim.Native.Nat.{ℕ, ◌+◌}
use mathlib.Core.Path.{◌≡◌, ◌∙◌, sym, ap}
use mathlib.Core.List.{List}
use native.Mathlib.Omega.{arith}
use Rattle.table.specs.Layout.{first_layout, leg_count, SizedIn}
use Rattle.table.specs.Records.{link_at, stream_at, leg_at}
use Rattle.table.specs.declared.Link.{Link}
use Rattle.table.specs.declared.Stream.{Stream}
use Rattle.table.specs.declared.Leg.{Leg}
use Rattle.shape.specs.Legs.{link_of, stream_of, first_of, end_of}
use Rattle.overlap.specs.declared.Slot.{Slot}
use Rattle.rules.specs.Times.{wire_time, hold_time, wire_of, hold_of, start_of, ready_of, slot_of}
use Rattle.rules.specs.Rules.{Window, Hop, Deadline, Overlap}
use Rattle.editions.specs.Converted.{converted}
use Rattle.editions.specs.First.{first_leg_at}
use Rattle.editions.specs.FirstRules.{first_link_of, first_stream_of, first_ready_of, first_slot_of, FirstWindow, FirstHop, FirstDeadline, FirstOverlap}
use Rattle.editions.specs.Theorems.{ConvertedKeepsRules}
use Rattle.rules.proofs.Said.{on_time, window_says, hop_says, deadline_says, overlap_says}
use Rattle.editions.proofs.Records.{old_records}

abbrev slot_with : ℕ → ℕ → ℕ → Slot
slot_with o p h = record { offset = o; period = p; hold = h }

module _ (u : List ℕ) (s : SizedIn first_layout u) where
  abbrev t : List ℕ
  t = converted first_layout u

  legs : leg_count t ≡ leg_count u
  legs = (old_records u s).leg_count_is

  module _ (a : ℕ) where
    leg_link : (leg_at t a).link ≡ (first_leg_at u a).link
    leg_link = ap (λ (l : Leg). l.link) ((old_records u s).leg a)

    offset : (leg_at t a).offset ≡ (first_leg_at u a).offset
    offset = ap (λ (l : Leg). l.offset) ((old_records u s).leg a)

    link : link_of t a ≡ first_link_of u a
    link = ap (link_at t) leg_link ∙ (old_records u s).link (first_leg_at u a).link

    stream : stream_of t a ≡ first_stream_of u a
    stream = ap (λ (l : Leg). stream_at t l.stream) ((old_records u s).leg a) ∙ (old_records u s).stream (first_leg_at u a).stream

    first : first_of t a ≡ (first_stream_of u a).first
    first = ap (λ (z : Stream). z.first) stream

    period : (stream_of t a).period ≡ (first_stream_of u a).period
    period = ap (λ (z : Stream). z.period) stream

    end : end_of t a ≡ (first_stream_of u a).first + (first_stream_of u a).count
    end = ap (λ (z : Stream). z.first + z.count) stream

    start : start_of t a ≡ (first_leg_at u a).offset
    start = on_time t a (ap (λ (l : Leg). l.periods) ((old_records u s).leg a)) ∙ offset

    hold : hold_of t a ≡ (first_slot_of u a).hold
    hold = ap (λ (z : Stream). hold_time z.octets (link_of t a).rate) stream ∙ ap (λ (z : Link). hold_time (first_stream_of u a).octets z.rate) link

    wire : wire_of t a ≡ wire_time (first_stream_of u a).octets (first_link_of u a).rate
    wire = ap (λ (z : Stream). wire_time z.octets (link_of t a).rate) stream ∙ ap (λ (z : Link). wire_time (first_stream_of u a).octets z.rate) link

    ready : ready_of t a ≡ first_ready_of u a
    ready = omega (arith, start, wire, ap (λ (z : Link). z.propagation) link, (old_records u s).precision)

    slot : slot_of t a ≡ first_slot_of u a
    slot =
        ap (λ (o : ℕ). slot_with o (stream_of t a).period (hold_of t a)) offset
        ∙ ap (λ (p : ℕ). slot_with (first_leg_at u a).offset p (hold_of t a)) period
        ∙ ap (slot_with (first_leg_at u a).offset (first_stream_of u a).period) hold

  module _ (a : ℕ) where
    window : Window t a → FirstWindow u a
    window h = omega (arith, (window_says t a).0 h, offset a, hold a, period a)

    window_back : FirstWindow u a → Window t a
    window_back h = (window_says t a).1 (omega (arith, h, offset a, hold a, period a))

    hop : Hop t a → FirstHop u a
    hop h b from next = omega (arith, (hop_says t a).0 h b (omega (arith, from, first a)) next, ready b, start a)

    hop_back : FirstHop u a → Hop t a
    hop_back h = (hop_says t a).1 (λ b from next. omega (arith, h b (omega (arith, from, first a)) next, ready b, start a))

    -- What is due: the deadline after the start of the stream's first leg.
    due : (stream_of t a).deadline + start_of t (first_of t a) ≡ (first_stream_of u a).deadline + (first_leg_at u (first_stream_of u a).first).offset
    due = omega (arith, ap (λ (z : Stream). z.deadline) (stream a), ap (start_of t) (first a), start (first_stream_of u a).first)

    deadline : Deadline t a → FirstDeadline u a
    deadline h last = omega (arith, (deadline_says t a).0 h (last ∙ sym (end a)), ready a, due)

    deadline_back : FirstDeadline u a → Deadline t a
    deadline_back h = (deadline_says t a).1 (λ last. omega (arith, h (last ∙ end a), ready a, due))

    overlap : (b : ℕ) → Overlap t a b → FirstOverlap u a b
    overlap b h e = rw (slot a, slot b) at ((overlap_says t a b).0 h (leg_link a ∙ e ∙ sym (leg_link b)))

    overlap_back : (b : ℕ) → FirstOverlap u a b → Overlap t a b
    overlap_back b h = (overlap_says t a b).1 (λ e. rw (slot a, slot b) (h (sym (leg_link a) ∙ e ∙ leg_link b)))

pub converted_keeps_rules : ConvertedKeepsRules
converted_keeps_rules u s = (
  λ r. record {
    window = λ a h. window u s a (r.window a (omega (arith, legs u s)));
    hop = λ a h. hop u s a (r.hop a (omega (arith, legs u s)));
    deadline = λ a h. deadline u s a (r.deadline a (omega (arith, legs u s)));
    overlap = λ a b h k n. overlap u s a b (r.overlap a b (omega (arith, legs u s)) (omega (arith, legs u s)) n);
  },
  λ r. record {
    window = λ a h. window_back u s a (r.window a (omega (arith, legs u s)));
    hop = λ a h. hop_back u s a (r.hop a (omega (arith, legs u s)));
    deadline = λ a h. deadline_back u s a (r.deadline a (omega (arith, legs u s)));
    overlap = λ a b h k n. overlap_back u s a b (r.overlap a b (omega (arith, legs u s)) (omega (arith, legs u s)) n);
  },
)
