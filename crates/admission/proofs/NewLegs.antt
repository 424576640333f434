-- What the new legs of an enlarged table read as: their links, their slots, and when each starts and is ready. Assumes nothing.
use Prim.Native.Nat.{ℕ, ◌+◌, ◌*◌, ◌/◌, ◌%◌, ◌<◌}
use mathlib.Core.Path.{◌≡◌, ◌∙◌, ap}
use mathlib.Core.List.{List}
use lib.ListN.{length, get_or}
use native.Mathlib.Nat.{div-add-mod'}
use native.Mathlib.Omega.{arith}
use Rattle.table.specs.Layout.{leg_count, Sized}
use Rattle.table.specs.Records.{link_at, stream_at, leg_at}
use Rattle.table.specs.declared.Link.{Link}
use Rattle.table.specs.declared.Stream.{Stream}
use Rattle.table.specs.declared.Leg.{Leg}
use Rattle.shape.specs.Legs.{link_of, stream_of, first_of, end_of}
use Rattle.rules.specs.Times.{wire_time, wire_of, hold_of, offset_of, start_of, ready_of, slot_of}
use Rattle.rules.proofs.Said.{start_says}
use Rattle.offsets.specs.Conditions.{slot_from}
use Rattle.enlarge.specs.Enlarged.{legs_from, enlarged}
use Rattle.enlarge.specs.Reads.{stream_wanted, Grown, start_at}
use Rattle.enlarge.specs.declared.Wanted.{Wanted}
use Rattle.enlarge.proofs.Grown.{grown_reads}
use Rattle.enlarge.proofs.NewLegs.{leg_starting, from_length, from_leg, start_next, start_shift, sent_on_is}
use Rattle.admission.specs.Steps.{after_of, new_hold}

module _ (t : List ℕ) (w : Wanted) (route : List ℕ) (x : ℕ) (sized : Sized t) where
  pub reads : Grown t w (length route) (legs_from t w x route) (enlarged t w route x)
  reads = grown_reads t w (length route) (legs_from t w x route) sized (from_length t w x route)

  module _ (j : ℕ) (h : j < length route) where
    pub new_leg : leg_at (enlarged t w route x) (leg_count t + j) ≡ leg_starting t w (start_at t w x route j) (get_or route j 0)
    new_leg = reads.new_leg j h ∙ from_leg t w x route j h

    pub new_link : (leg_at (enlarged t w route x) (leg_count t + j)).link ≡ get_or route j 0
    new_link = ap (λ (l : Leg). l.link) new_leg

    link : link_of (enlarged t w route x) (leg_count t + j) ≡ link_at t (get_or route j 0)
    link = ap (λ (l : Leg). link_at (enlarged t w route x) l.link) new_leg ∙ reads.link (get_or route j 0)

    stream : stream_of (enlarged t w route x) (leg_count t + j) ≡ stream_wanted t w (length route)
    stream = ap (λ (l : Leg). stream_at (enlarged t w route x) l.stream) new_leg ∙ reads.new_stream_is

    pub new_first : first_of (enlarged t w route x) (leg_count t + j) ≡ leg_count t
    new_first = ap (λ (s : Stream). s.first) stream

    pub new_end : end_of (enlarged t w route x) (leg_count t + j) ≡ leg_count t + length route
    new_end = ap (λ (s : Stream). s.first + s.count) stream

    pub new_deadline : (stream_of (enlarged t w route x) (leg_count t + j)).deadline ≡ w.deadline
    new_deadline = ap (λ (s : Stream). s.deadline) stream

    pub new_period : (stream_of (enlarged t w route x) (leg_count t + j)).period ≡ w.period
    new_period = ap (λ (s : Stream). s.period) stream

    pub new_offset : offset_of (enlarged t w route x) (leg_count t + j) ≡ (x + after_of t w route j) % w.period
    new_offset = ap (λ (l : Leg). l.offset) new_leg ∙ ap (λ (s : ℕ). s % w.period) (start_shift t w x route j)

    pub new_periods : (leg_at (enlarged t w route x) (leg_count t + j)).periods ≡ (x + after_of t w route j) / w.period
    new_periods = ap (λ (l : Leg). l.periods) new_leg ∙ ap (λ (s : ℕ). s / w.period) (start_shift t w x route j)

    pub new_hold_is : hold_of (enlarged t w route x) (leg_count t + j) ≡ new_hold t w route j
    new_hold_is = let s = stream in let l = link in cc

    wire : wire_of (enlarged t w route x) (leg_count t + j) ≡ wire_time w.octets (link_at t (get_or route j 0)).rate
    wire = let s = stream in let l = link in cc

    pub new_slot : slot_of (enlarged t w route x) (leg_count t + j) ≡ slot_from (after_of t w route j) w.period (new_hold t w route j) x
    new_slot = let o = new_offset in let p = new_period in let k = new_hold_is in cc

    -- It starts when the frame of the leg before it is there, and is ready when the next leg starts.
    pub new_start : start_of (enlarged t w route x) (leg_count t + j) ≡ start_at t w x route j
    new_start =
        let l = new_leg in
        let s = stream in
        let parts : start_of (enlarged t w route x) (leg_count t + j) ≡ start_at t w x route j % w.period + start_at t w x route j / w.period * w.period
        = let says = start_says (enlarged t w route x) (leg_count t + j) in cc in
        omega (arith, div-add-mod' (start_at t w x route j) w.period)

    pub new_ready : ready_of (enlarged t w route x) (leg_count t + j) ≡ start_at t w x route (j + 1)
    new_ready =
        omega (
          arith,
          new_start,
          wire,
          ap (λ (l : Link). l.propagation) link,
          reads.precision,
          start_next t w x route j h,
          sent_on_is t w (start_at t w x route j) (get_or route j 0),
        )
