-- In a grown table each old leg reads as before, and so its rules say what they said. Assumes nothing.
use Prim.Native.Nat.{ℕ, ◌+◌, ◌<◌}
use mathlib.Core.Path.{◌≡◌, ◌∙◌, sym, ap}
use mathlib.Core.List.{List}
use native.Mathlib.Omega.{arith}
use Rattle.table.specs.Layout.{leg_count}
use Rattle.table.specs.Records.{link_at, stream_at, leg_at}
use Rattle.table.specs.declared.Link.{Link}
use Rattle.table.specs.declared.Stream.{Stream}
use Rattle.table.specs.declared.Leg.{Leg}
use Rattle.shape.specs.Guarantees.{Guarantees}
use Rattle.shape.specs.Legs.{link_of, stream_of, first_of, end_of}
use Rattle.rules.specs.Times.{wire_of, hold_of, offset_of, start_of, ready_of, slot_of}
use Rattle.rules.specs.Rules.{Window, Hop, Deadline, Overlap}
use Rattle.rules.proofs.Said.{start_says, window_says, hop_says, deadline_says, overlap_says}
use Rattle.enlarge.specs.Reads.{Grown}
use Rattle.enlarge.specs.declared.Wanted.{Wanted}

module _ (t u : List ℕ) (w : Wanted) (k : ℕ) (legs : List ℕ) (g : Grown t w k legs u) (v : Guarantees t) where
  module _ (a : ℕ) (h : a < leg_count t) where
    leg : leg_at u a ≡ leg_at t a
    leg = g.leg a h

    pub old_link : (leg_at u a).link ≡ (leg_at t a).link
    old_link = ap (λ (l : Leg). l.link) leg

    pub old_link_of : link_of u a ≡ link_of t a
    old_link_of = ap (λ (l : Leg). link_at u l.link) leg ∙ g.link (leg_at t a).link

    stream : stream_of u a ≡ stream_of t a
    stream = ap (λ (l : Leg). stream_at u l.stream) leg ∙ g.stream (leg_at t a).stream (v.leg a h).stream

    pub old_first : first_of u a ≡ first_of t a
    old_first = ap (λ (s : Stream). s.first) stream

    pub old_end : end_of u a ≡ end_of t a
    old_end = ap (λ (s : Stream). s.first + s.count) stream

    period : (stream_of u a).period ≡ (stream_of t a).period
    period = ap (λ (s : Stream). s.period) stream

    offset : offset_of u a ≡ offset_of t a
    offset = ap (λ (l : Leg). l.offset) leg

    hold : hold_of u a ≡ hold_of t a
    hold = let s = stream in let l = old_link_of in cc

    wire : wire_of u a ≡ wire_of t a
    wire = let s = stream in let l = old_link_of in cc

    start : start_of u a ≡ start_of t a
    start = let s = stream in let l = leg in let new = start_says u a in let old = start_says t a in cc

    ready : ready_of u a ≡ ready_of t a
    ready = omega (arith, start, wire, ap (λ (l : Link). l.propagation) old_link_of, g.precision)

    pub old_slot : slot_of u a ≡ slot_of t a
    old_slot = let o = offset in let p = period in let k = hold in cc

    pub old_window : Window t a → Window u a
    old_window r = (window_says u a).1 (omega (arith, (window_says t a).0 r, offset, hold, period))

  module _ (a : ℕ) (h : a < leg_count t) where
    pub old_hop : Hop t a → Hop u a
    old_hop r =
        (hop_says u a).1
        (λ b from next. omega (arith, (hop_says t a).0 r b (omega (arith, from, old_first a h)) next, ready b (omega arith), start a h))

    pub old_deadline : Deadline t a → Deadline u a
    old_deadline r =
        let f = ap (start_of u) (old_first a h) ∙ start (first_of t a) (omega (arith, (v.leg a h).from_first)) in
        let d = ap (λ (s : Stream). s.deadline) (stream a h) in
        (deadline_says u a).1 (λ last. omega (arith, (deadline_says t a).0 r (last ∙ old_end a h), ready a h, f, d))

    pub old_overlap : (b : ℕ) → b < leg_count t → Overlap t a b → Overlap u a b
    old_overlap b l r = (overlap_says u a b).1 (λ e. rw (old_slot a h, old_slot b l) ((overlap_says t a b).0 r (sym (old_link a h) ∙ e ∙ old_link b l)))
