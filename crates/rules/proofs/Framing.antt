-- What is read of a leg: its record, its stream's and its link's, and their bounds. Assumes nothing.
use Prim.Native.Nat.{ℕ, ◌+◌, ◌≤◌}
use mathlib.Core.Path.{◌≡◌, ap}
use mathlib.Core.List.{List}
use native.Mathlib.Omega.{arith}
use Rattle.numbers.specs.Number.{max_word}
use Rattle.table.specs.Layout.{max_legs}
use Rattle.table.specs.Records.{link_at, stream_at, leg_at}
use Rattle.table.specs.declared.Leg.{Leg}
use Rattle.table.specs.declared.Link.{Link}
use Rattle.table.specs.declared.Stream.{Stream}
use Rattle.shape.specs.Streams.{max_period, max_periods, max_octets}
use Rattle.shape.specs.Legs.{link_of, stream_of}
use Rattle.shape.specs.Guarantees.{StreamPlaced, LinkSmall}
use Rattle.rules.specs.Times.{start_time, wire_time, hold_time, start_of}
use Rattle.rules.specs.Steps.{Timed, StartsAt, FrameOf, LegIn}

-- A leg's record, read of a plan p, is the table's.
module _ {t p : List ℕ} {a : ℕ} {leg : Leg} (here : LegIn t a) (same : p ≡ t) (is : leg ≡ leg_at p a) where
  pub leg_is : leg ≡ leg_at t a
  leg_is = rw same at is

  pub leg_link : leg.link ≡ (leg_at t a).link
  leg_link = ap (λ (l : Leg). l.link) leg_is

  pub leg_stream : leg.stream ≡ (leg_at t a).stream
  leg_stream = ap (λ (l : Leg). l.stream) leg_is

-- All that is read of leg a.
pub record Reading : Type 0 where
  pub t : List ℕ
  pub a : ℕ
  pub leg : Leg
  pub stream : Stream
  pub link : Link
  pub leg_is : leg ≡ leg_at t a
  pub stream_is : stream ≡ stream_of t a
  pub link_is : link ≡ link_of t a
  pub periods : leg.periods ≤ max_periods
  pub octets : stream.octets ≤ max_octets
  pub period : (1 ≤ stream.period) × (stream.period ≤ max_period)
  pub legs : stream.first + stream.count ≤ max_legs
  pub small : LinkSmall link

abbrev pub reading : {t p : List ℕ} {a : ℕ} {leg : Leg} {stream : Stream} {link : Link} → LegIn t a → p ≡ t → leg ≡ leg_at p a → stream ≡ stream_at p leg.stream → link ≡ link_at p leg.link
    → Reading
reading {t = t} {a = a} {leg = leg} {stream = stream} {link = link} here same is is-stream is-link =
    let p = here.table.leg a here.leg in
    let n = leg_stream here same is in
    let m = leg_link here same is in
    let e : stream ≡ stream_of t a = rw (same, n) at is-stream in
    let k : link ≡ link_of t a = rw (same, m) at is-link in
    let placed : StreamPlaced t (leg_at t a).stream = here.table.stream _ p.stream in
    record {
      t = t;
      a = a;
      leg = leg;
      stream = stream;
      link = link;
      leg_is = leg_is here same is;
      stream_is = e;
      link_is = k;
      periods = rw (leg_is here same is) p.periods;
      octets = rw e placed.small.octets_to;
      period = rw e (placed.small.period_from, placed.small.period_to);
      legs = rw e (omega (arith, placed.in_table, here.table.sized.limits.legs));
      small = rw k (here.table.link _ p.link);
    }

-- The frame that is made of them is the leg's.
pub frame_read : (r : Reading) {start wire hold : ℕ} → r.leg.offset ≤ max_word → r.stream.deadline ≤ max_word → StartsAt (start_time r.leg.offset r.leg.periods r.stream.period) start
    → Timed (wire_time r.stream.octets r.link.rate) wire → Timed (hold_time r.stream.octets r.link.rate) hold
    → FrameOf r.t r.a (record {
      offset = r.leg.offset;
      start = start;
      wire = wire;
      hold = hold;
      propagation = r.link.propagation;
      link = r.leg.link;
      period = r.stream.period;
      deadline = r.stream.deadline;
      first = r.stream.first;
      end = r.stream.first + r.stream.count;
    })
unfolding start_of
frame_read r near due s w h = record {
  offset = ap (λ (z : Leg). z.offset) r.leg_is;
  start = rw (r.leg_is, r.stream_is) at s.same;
  near = near;
  small = s.small;
  wire = rw (r.stream_is, r.link_is) at w;
  hold = rw (r.stream_is, r.link_is) at h;
  propagation = ap (λ (z : Link). z.propagation) r.link_is;
  short = r.small.propagation;
  link = ap (λ (z : Leg). z.link) r.leg_is;
  period = ap (λ (z : Stream). z.period) r.stream_is;
  deadline = ap (λ (z : Stream). z.deadline) r.stream_is;
  first = ap (λ (z : Stream). z.first) r.stream_is;
  end = omega (arith, ap (λ (z : Stream). z.first) r.stream_is, ap (λ (z : Stream). z.count) r.stream_is);
  repeats = (r.period.0, omega (arith, r.period.1));
  due = due;
}
