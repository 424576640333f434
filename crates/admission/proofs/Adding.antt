-- A stream can be added exactly when no limit is passed, it is in range, and its route is one: the old records of the table with it are right as they were. Assumes nothing.
use Prim.Native.Nat.{ℕ, zero, suc, ◌+◌, ◌-◌, ◌≤◌, ◌<◌}
use mathlib.Core.Path.{◌≡◌, ◌∙◌, sym, ap, subst}
use mathlib.Core.List.{List}
use lib.ListN.{length}
use native.Mathlib.Nat.{add-zero}
use native.Mathlib.Omega.{arith}
use Rattle.table.specs.Layout.{stream_count, leg_count, Sized}
use Rattle.table.specs.Records.{stream_at, leg_at}
use Rattle.table.specs.declared.Link.{Link}
use Rattle.table.specs.declared.Stream.{Stream}
use Rattle.table.specs.declared.Leg.{Leg}
use Rattle.shape.specs.Links.{LinkInRange}
use Rattle.shape.specs.Streams.{StreamInRange, legs_before, StreamRight}
use Rattle.shape.specs.Legs.{link_of, first_of, LegRight}
use Rattle.shape.specs.Guarantees.{Guarantees}
use Rattle.shape.specs.Shape.{WellFormedTable}
use Rattle.shape.proofs.StreamLaws.{legs_none, legs_more}
use Rattle.shape.proofs.Placed.{well_formed_guarantees}
use Rattle.enlarge.specs.Enlarged.{legs_at_zero, without_times}
use Rattle.enlarge.specs.Reads.{stream_wanted, Grown}
use Rattle.enlarge.specs.declared.Wanted.{Wanted}
use Rattle.enlarge.proofs.Grown.{grown_sized}
use Rattle.enlarge.proofs.NewLegs.{zero_length}
use Rattle.enlarge.proofs.Ranges.{wanted_in_range}
use Rattle.admission.specs.Admits.{CanAdd}
use Rattle.admission.specs.Adding.{link_on, Addition, CanAddInWords}
use Rattle.admission.proofs.OldLegs.{old_link_of, old_first, old_end}
use Rattle.admission.proofs.Wanting.{zero_reads, leg_at_zero_is, zero_link, zero_first}
use Rattle.admission.proofs.Fitting.{old_or_new}

module _ (t : List ℕ) (w : Wanted) (route : List ℕ) (shape : WellFormedTable t) where
  sized : Sized t
  sized = shape.sized

  read : Grown t w (length route) (legs_at_zero t route) (without_times t w route)
  read = zero_reads t w route sized

  guaranteed : Guarantees t
  guaranteed = well_formed_guarantees t shape

  -- What is right of the new legs is what the request asks of the route.
  module _ (can : CanAdd t w route) where
    new_right : (j : ℕ) → j < length route → LegRight (without_times t w route) (leg_count t + j)
    new_right j h = can.legs (leg_count t + j) (omega (arith, read.leg_count_is))

    to_words : Addition t w route
    to_words =
        let range = wanted_in_range t w route sized can in
        let link = zero_link t w route sized in
        let first = zero_first t w route sized in
        record {
          streams = range.streams;
          legs = range.legs;
          stream = range.stream;
          links = range.links;
          joined = λ j h.
              sym (ap (λ (l : Link). l.from) (link (j + 1) h))
              ∙ (new_right (j + 1) h).joined (leg_count t + j) (omega (arith, first (j + 1) h)) (omega arith)
              ∙ ap (λ (l : Link). l.to) (link j (omega arith));
          not_start = λ j h e.
              (new_right j h).not_start
              (ap (λ (l : Link). l.to) (link j h)
              ∙ e
              ∙ sym (ap (λ (l : Link). l.from) (link 0 (omega arith)))
              ∙ ap (λ (a : ℕ). (link_of (without_times t w route) a).from) (add-zero (leg_count t) ∙ sym (first j h)));
          new_node = λ i j l h e.
              (new_right j h).new_node (leg_count t + i) (omega (arith, first j h)) (omega arith)
              (ap (λ (k : Link). k.to) (link j h) ∙ e ∙ sym (ap (λ (k : Link). k.to) (link i (omega arith))));
        }

  module _ (adds : Addition t w route) where
    -- The old streams have the legs that they had.
    legs_before_is : (i : ℕ) → i ≤ stream_count t → legs_before (without_times t w route) i ≡ legs_before t i
    legs_before_is zero h = legs_none (without_times t w route) ∙ sym (legs_none t)
    legs_before_is (suc i) h =
        let one : i + 1 ≡ suc i = omega arith in
        let before = legs_before_is i (omega arith) in
        let count = ap (λ (s : Stream). s.count) (read.stream i (omega arith)) in
        ap (legs_before (without_times t w route)) (sym one) ∙ legs_more (without_times t w route) i ∙ omega arith ∙ sym (legs_more t i) ∙ ap (legs_before t) one

    before_new : legs_before (without_times t w route) (stream_count t) ≡ leg_count t
    before_new = legs_before_is (stream_count t) (omega arith) ∙ shape.counts

    old_stream : (i : ℕ) → i < stream_count t → StreamRight (without_times t w route) i
    old_stream i h =
        let right = shape.streams i h in
        let is = read.stream i h in
        record {
          in_range = subst StreamInRange (sym is) right.in_range;
          first = ap (λ (s : Stream). s.first) is ∙ right.first ∙ sym (legs_before_is i (omega arith));
          within = omega (arith, right.within, ap (λ (s : Stream). s.count) is, legs_before_is i (omega arith), read.leg_count_is);
        }

    new_stream_is : StreamRight (without_times t w route) (stream_count t)
    new_stream_is =
        let is = read.new_stream_is in
        record {
          in_range = subst StreamInRange (sym is) adds.stream;
          first = ap (λ (s : Stream). s.first) is ∙ sym before_new;
          within = omega (arith, before_new, ap (λ (s : Stream). s.count) is, read.leg_count_is);
        }

    old_leg : (a : ℕ) → a < leg_count t → LegRight (without_times t w route) a
    old_leg a h =
        let right = shape.legs a h in
        let is = read.leg a h in
        let first = old_first t (without_times t w route) w (length route) _ read guaranteed a h in
        let link = old_link_of t (without_times t w route) w (length route) _ read guaranteed in
        record {
          stream = omega (arith, right.stream, ap (λ (l : Leg). l.stream) is, read.stream_count_is);
          from_first = omega (arith, right.from_first);
          to_last = omega (arith, right.to_last, old_end t (without_times t w route) w (length route) _ read guaranteed a h);
          in_range = record {
            link = omega (arith, right.in_range.link, ap (λ (l : Leg). l.link) is, read.link_count_is);
            periods = omega (arith, right.in_range.periods, ap (λ (l : Leg). l.periods) is);
          };
          joined = λ b l e. ap (λ (k : Link). k.from) (link a h) ∙ right.joined b (omega arith) e ∙ sym (ap (λ (k : Link). k.to) (link b (omega arith)));
          not_start = λ e.
              right.not_start
              (sym (ap (λ (k : Link). k.to) (link a h))
              ∙ e
              ∙ ap (λ (b : ℕ). (link_of (without_times t w route) b).from) first
              ∙ ap (λ (k : Link). k.from) (link (first_of t a) (omega (arith, right.from_first))));
          new_node = λ b l k e.
              right.new_node b (omega arith) k (sym (ap (λ (z : Link). z.to) (link a h)) ∙ e ∙ ap (λ (z : Link). z.to) (link b (omega arith)));
        }

    new_leg : (j : ℕ) → j < length route → LegRight (without_times t w route) (leg_count t + j)
    new_leg j h =
        let is = leg_at_zero_is t w route sized j h in
        let first = zero_first t w route sized j h in
        let link = zero_link t w route sized in
        let stream : stream_at (without_times t w route) (leg_at (without_times t w route) (leg_count t + j)).stream ≡ stream_wanted t w (length route)
        = ap (λ (l : Leg). stream_at (without_times t w route) l.stream) is ∙ read.new_stream_is in
        record {
          stream = omega (arith, ap (λ (l : Leg). l.stream) is, read.stream_count_is);
          from_first = omega arith;
          to_last = omega (arith, ap (λ (s : Stream). s.first + s.count) stream);
          in_range = record { link = omega (arith, adds.links j h, ap (λ (l : Leg). l.link) is, read.link_count_is); periods = omega (arith, ap (λ (l : Leg). l.periods) is) };
          joined = λ b l e.
              let i : b ≡ leg_count t + (b - leg_count t) = omega arith in
              let next : j ≡ b - leg_count t + 1 = omega arith in
              ap (λ (k : Link). k.from) (link j h)
              ∙ ap (λ (n : ℕ). (link_on t route n).from) next
              ∙ adds.joined (b - leg_count t) (omega arith)
              ∙ sym (ap (λ (k : Link). k.to) (link (b - leg_count t) (omega arith)))
              ∙ sym (ap (λ (n : ℕ). (link_of (without_times t w route) n).to) i);
          not_start = λ e.
              adds.not_start j h
              (sym (ap (λ (k : Link). k.to) (link j h))
              ∙ e
              ∙ ap (λ (b : ℕ). (link_of (without_times t w route) b).from) (first ∙ sym (add-zero (leg_count t)))
              ∙ ap (λ (k : Link). k.from) (link 0 (omega arith)));
          new_node = λ b l k e.
              let i : b ≡ leg_count t + (b - leg_count t) = omega arith in
              adds.new_node (b - leg_count t) j (omega arith) h
              (sym (ap (λ (z : Link). z.to) (link j h))
              ∙ e
              ∙ ap (λ (n : ℕ). (link_of (without_times t w route) n).to) i
              ∙ ap (λ (z : Link). z.to) (link (b - leg_count t) (omega arith)));
        }

    from_words : CanAdd t w route
    from_words = record {
      sized = grown_sized t w (length route) _ sized (zero_length t route) adds.streams adds.legs;
      links = λ i h. subst LinkInRange (sym (read.link i)) (shape.links i (omega (arith, read.link_count_is)));
      new_links = λ i h j l e.
          shape.new_links i (omega (arith, read.link_count_is)) j l
          (record {
            from_node = sym (ap (λ (z : Link). z.from) (read.link j)) ∙ e.from_node ∙ ap (λ (z : Link). z.from) (read.link i);
            to_node = sym (ap (λ (z : Link). z.to) (read.link j)) ∙ e.to_node ∙ ap (λ (z : Link). z.to) (read.link i);
          });
      streams = λ i h.
          old_or_new (stream_count t) 1 i (StreamRight (without_times t w route)) old_stream
          (λ j l. subst (StreamRight (without_times t w route)) (let e : stream_count t ≡ stream_count t + j = omega arith in e) new_stream_is)
          (omega (arith, read.stream_count_is));
      counts =
          let is = read.new_stream_is in
          ap (legs_before (without_times t w route)) read.stream_count_is
          ∙ legs_more (without_times t w route) (stream_count t)
          ∙ omega (arith, before_new, ap (λ (s : Stream). s.count) is, read.leg_count_is);
      legs = λ a h.
          old_or_new (leg_count t) (length route) a (LegRight (without_times t w route)) old_leg new_leg (omega (arith, read.leg_count_is));
    }

pub can_add_in_words : CanAddInWords
can_add_in_words t w route shape = (to_words t w route shape, from_words t w route shape)
