-- What a grown table reads as, how long it is, and when it is within the limits. Assumes nothing.
use Prim.Native.Nat.{ℕ, ◌+◌, ◌*◌, ◌≤◌}
use mathlib.Core.Path.{◌≡◌, refl, ◌∙◌, sym, ap}
use mathlib.Core.List.{List, [], ◌++◌, append_assoc, append-nil}
use lib.ListN.{length, take, drop, length-append, length-drop}
use lib.Seq.{length-take-le}
use native.Mathlib.Nat.{add-zero}
use native.Mathlib.Omega.{arith}
use Rattle.table.specs.Layout.{max_streams, max_legs, link_words, stream_words, leg_words, link_count, stream_count, leg_count, link_start, stream_start, leg_start, table_words, Sized}
use Rattle.table.specs.Records.{link_part, stream_part, leg_part, link_in, stream_in, leg_in}
use Rattle.table.proofs.PartLaws.{stream_inside, leg_inside, link_of_part, stream_of_part, leg_of_part}
use Rattle.enlarge.specs.Enlarged.{new_head, new_stream, grown}
use Rattle.enlarge.specs.Reads.{Grown}
use Rattle.enlarge.specs.declared.Wanted.{Wanted}
use Rattle.enlarge.proofs.Pieces.{piece_at, stream_in_front, stream_after, leg_in_front, leg_after}

-- How long the parts of a table are.
module _ {t : List ℕ} (s : Sized t) where
  part_long : (start n : ℕ) → start + n ≤ length t → length (take n (drop start t)) ≡ n
  part_long start n h = length-take-le n (drop start t) (omega (arith, length-drop start t))

  pub links_long : length (link_part t) ≡ link_words * link_count t
  links_long = part_long link_start (link_words * link_count t) (omega (arith, s.exact))

  pub streams_long : length (stream_part t) ≡ stream_words * stream_count t
  streams_long = part_long (stream_start t) (stream_words * stream_count t) (omega (arith, s.exact))

  pub legs_long : length (leg_part t) ≡ leg_words * leg_count t
  legs_long = part_long (leg_start t) (leg_words * leg_count t) (omega (arith, s.exact))

-- The pieces in front of the streams, and in front of the legs.
abbrev before_streams : List ℕ → ℕ → List ℕ
before_streams t k = new_head t k ++ link_part t

abbrev new_streams : List ℕ → Wanted → ℕ → List ℕ
new_streams t w k = stream_part t ++ new_stream t w k

abbrev before_legs : List ℕ → Wanted → ℕ → List ℕ
before_legs t w k = before_streams t k ++ new_streams t w k

module _ (t : List ℕ) (w : Wanted) (k : ℕ) (legs : List ℕ) where
  -- The table in these pieces.
  by_streams : grown t w k legs ≡ before_streams t k ++ (new_streams t w k ++ (leg_part t ++ legs))
  unfolding grown
  by_streams = simp append_assoc

  by_legs : grown t w k legs ≡ before_legs t w k ++ ((leg_part t ++ legs) ++ [])
  by_legs =
      by_streams ∙ sym (append_assoc (before_streams t k) (new_streams t w k) (leg_part t ++ legs)) ∙ ap (λ (x : List ℕ). before_legs t w k ++ x) (sym (append-nil (leg_part t ++ legs)))

  -- The new legs come last.
  pub grown_then : grown t w k [] ++ legs ≡ grown t w k legs
  unfolding grown
  grown_then = simp (append_assoc, append-nil)

  -- Within the limits it has not too many streams and legs, whatever its legs.
  pub grown_limits : Sized (grown t w k legs) → (stream_count t + 1 ≤ max_streams) × (leg_count t + k ≤ max_legs)
  unfolding grown
  grown_limits z = (z.limits.streams, z.limits.legs)

  module _ (s : Sized t) where
    streams_start : length (before_streams t k) ≡ stream_start t
    streams_start = length-append (new_head t k) (link_part t) ∙ omega (arith, links_long s)

    streams_are : length (new_streams t w k) ≡ stream_words * (stream_count t + 1)
    streams_are = length-append (stream_part t) (new_stream t w k) ∙ omega (arith, streams_long s)

    legs_start : length (before_legs t w k) ≡ leg_start t + stream_words
    legs_start = length-append (before_streams t k) (new_streams t w k) ∙ omega (arith, streams_start, streams_are)

    link_part_is : link_part (grown t w k legs) ≡ link_part t
    unfolding grown
    link_part_is = piece_at (new_head t k) (link_part t) _ link_start (link_words * link_count t) refl (links_long s)

    stream_part_is : stream_part (grown t w k legs) ≡ new_streams t w k
    unfolding grown
    stream_part_is =
        ap (λ (x : List ℕ). take (stream_words * (stream_count t + 1)) (drop (stream_start t) x)) by_streams
        ∙ piece_at (before_streams t k) (new_streams t w k) _ (stream_start t) _ streams_start streams_are

    -- Its length, however many words its new legs have.
    pub grown_words : length (grown t w k legs) ≡ table_words t + stream_words + length legs
    grown_words =
        let a = length-append (before_legs t w k) ((leg_part t ++ legs) ++ []) in
        let b = length-append (leg_part t ++ legs) [] in
        let c = length-append (leg_part t) legs in
        ap length by_legs ∙ omega (arith, legs_start, legs_long s)

    module _ (whole : length legs ≡ leg_words * k) where
      legs_are : length (leg_part t ++ legs) ≡ leg_words * (leg_count t + k)
      legs_are = length-append (leg_part t) legs ∙ omega (arith, legs_long s)

      pub grown_long : length (grown t w k legs) ≡ table_words t + stream_words + leg_words * k
      grown_long = omega (arith, grown_words)

      leg_part_is : leg_part (grown t w k legs) ≡ leg_part t ++ legs
      unfolding grown
      leg_part_is =
          let start : leg_start (grown t w k legs) ≡ leg_start t + stream_words = omega arith in
          ap (λ (x : List ℕ). take (leg_words * (leg_count t + k)) (drop (leg_start (grown t w k legs)) x)) by_legs
          ∙ piece_at (before_legs t w k) (leg_part t ++ legs) [] (leg_start (grown t w k legs)) _ (legs_start ∙ sym start) legs_are

      -- Its records: those of t, the new stream, and the new legs.
      pub grown_reads : Grown t w k legs (grown t w k legs)
      unfolding grown
      grown_reads = record {
        revision = refl;
        link_count_is = refl;
        stream_count_is = refl;
        leg_count_is = refl;
        precision = refl;
        link = λ i. sym (link_of_part (grown t w k legs) i) ∙ ap (λ (p : List ℕ). link_in p i) link_part_is ∙ link_of_part t i;
        stream = λ i h.
            sym (stream_of_part (grown t w k legs) i)
            ∙ ap (λ (p : List ℕ). stream_in p i) stream_part_is
            ∙ stream_in_front (stream_part t) (new_stream t w k) i (stream_inside t s i h)
            ∙ stream_of_part t i;
        new_stream_is =
            sym (stream_of_part (grown t w k legs) (stream_count t))
            ∙ ap (λ (p : List ℕ). stream_in p (stream_count t)) stream_part_is
            ∙ ap (stream_in (new_streams t w k)) (sym (add-zero (stream_count t)))
            ∙ stream_after (stream_part t) (new_stream t w k) (stream_count t) 0 (streams_long s);
        leg = λ a h.
            sym (leg_of_part (grown t w k legs) a)
            ∙ ap (λ (p : List ℕ). leg_in p a) leg_part_is
            ∙ leg_in_front (leg_part t) legs a (leg_inside t s a h)
            ∙ leg_of_part t a;
        new_leg = λ j h.
            sym (leg_of_part (grown t w k legs) (leg_count t + j))
            ∙ ap (λ (p : List ℕ). leg_in p (leg_count t + j)) leg_part_is
            ∙ leg_after (leg_part t) legs (leg_count t) j (legs_long s);
      }

      -- The other way: with not too many of them it is a table within the limits.
      pub grown_sized : stream_count t + 1 ≤ max_streams → leg_count t + k ≤ max_legs → Sized (grown t w k legs)
      grown_sized a b =
          let r = grown_reads in
          let l = grown_long in
          record {
            head = omega (arith, s.head, s.exact);
            limits = record {
              links = omega (arith, r.link_count_is, s.limits.links);
              streams = omega (arith, r.stream_count_is);
              legs = omega (arith, r.leg_count_is);
              precision = omega (arith, r.precision, s.limits.precision);
            };
            exact = omega (arith, r.link_count_is, r.stream_count_is, r.leg_count_is);
          }
