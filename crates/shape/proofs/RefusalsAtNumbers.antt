-- The refusals 1 to 7 at numbers: the records of a literal table are computed, those in front are right, and one is not. Assumes nothing.
use Prim.Native.Nat.{ℕ, ◌+◌, ◌*◌, ◌≤◌, ◌<◌}
use mathlib.Core.Path.{◌≡◌, refl, ◌∙◌, sym, ap, subst}
use mathlib.Core.List.{List, ◌∷◌}
use mathlib.Core.Logic.{inl, inr}
use lib.ListN.{length}
use native.Mathlib.Omega.{arith}
use borrow.Author.Count.{below_none, below_more}
use Rattle.basics.specs.Lowest.{All}
use Rattle.basics.proofs.Lowest.{lowest_of_all}
use Rattle.basics.specs.declared.Cause.{Cause}
use Rattle.basics.specs.declared.Cause.TheVariants as cause
use Rattle.table.specs.Layout.{link_words, stream_words, leg_words, max_links, max_streams, max_legs, max_precision, link_count, leg_count, InLimits, Sized}
use Rattle.table.specs.Records.{link_part, stream_part, link_in, stream_in, stream_at}
use Rattle.table.specs.declared.Link.{Link}
use Rattle.table.specs.declared.Stream.{Stream}
use Rattle.table.specs.declared.Leg.{Leg}
use Rattle.table.proofs.PartLaws.{link_of_part, stream_of_part, leg_of_part}
use Rattle.shape.specs.Links.{max_node, max_propagation, IsRate, LinkInRange, LinkNew}
use Rattle.shape.specs.Streams.{max_period, max_periods, max_periods_due, max_route, legs_before, StreamInRange, StreamRight}
use Rattle.shape.specs.Legs.{LegRight}
use Rattle.shape.specs.Shape.{LinkRight, WellFormedTable, ShapeFault}
use Rattle.shape.specs.Steps.{LinksPassed}
use Rattle.shape.specs.RefusalsAtNumbers.{TableRefused, header_of, wrong_link, link_again, wrong_stream, fewer_legs, wrong_leg, one_leg, LateAtNumbers, ShapeRefusalsAtNumbers}
use Rattle.shape.proofs.LinksComputed.{all_new}
use Rattle.shape.proofs.Judged.{past_links}
use Rattle.shape.proofs.Rates.{gigabit, hundred_megabit}
use Rattle.shape.proofs.OneShape.{well_no_fault}
use Rattle.shape.proofs.StreamLaws.{legs_none, legs_more}
use Rattle.shape.proofs.Reading.{link_of_lem, stream_of_lem, first_leg_right}
use Rattle.shape.proofs.Computed.{leg_on_lem, only_leg, in_range, before_next, stream_placed}

-- A refused table is not well-formed, since a shape has one answer.
refused : (t : List ℕ) (k : Cause) (p : ℕ) → ShapeFault t k p → TableRefused t k p
refused t k p f = record { first = f; not_well_formed = λ w. well_no_fault w f }

above : (n s g p : ℕ) → (InLimits (header_of n s g p) → ⊥) → TableRefused (header_of n s g p) cause.AboveLimit 0
above n s g p h = refused _ cause.AboveLimit 0 (inl (inr (omega arith, inl (refl, refl, h))))

-- The counts n, s and g are within their limits, and so is the precision p.
limits : (n s g p : ℕ) (ws : List ℕ) → (n ≤ max_links) × (s ≤ max_streams) × (g ≤ max_legs) × (p ≤ max_precision) → InLimits (0 ∷ n ∷ s ∷ g ∷ p ∷ ws)
limits n s g p ws h = record { links = h.0; streams = h.1; legs = h.2; precision = h.3 }

length_differs : (n s g p : ℕ) (ws : List ℕ) → (n ≤ max_links) × (s ≤ max_streams) × (g ≤ max_legs) × (p ≤ max_precision) → (length ws ≡ link_words * n + stream_words * s + leg_words * g → ⊥) → TableRefused (0 ∷ n ∷ s ∷ g ∷ p ∷ ws) cause.WrongLength 0
length_differs n s g p ws h d = refused _ cause.WrongLength 0 (inl (inr (omega arith, inr (limits n s g p ws h, (refl, refl, λ e. d (omega arith))))))

sized : (n s g : ℕ) (ws : List ℕ) → n + s + g ≤ max_links → length ws ≡ link_words * n + stream_words * s + leg_words * g → Sized (0 ∷ n ∷ s ∷ g ∷ 0 ∷ ws)
sized n s g ws h e = record {
  head = omega arith;
  limits = limits n s g 0 ws (omega arith, omega arith, omega arith, omega arith);
  exact = omega arith;
}

-- A link that leads from a node to a higher one, and such a link as most of the tables have it.
upwards : (l : Link) → l.from < l.to → l.to ≤ max_node → IsRate l.rate → l.propagation ≤ max_propagation → LinkInRange l
upwards l h k r p = record { from_node = omega arith; to_node = k; different = λ e. omega arith; rate = r; propagation = p }

abbrev between : ℕ → ℕ → Link
between from to = record { from = from; to = to; rate = 8; propagation = 500 }

module _ (t : List ℕ) where
  link_right : (i : ℕ) → LinkInRange (link_in (link_part t) i) → LinkRight t i
  link_right i h = subst LinkInRange (link_of_part t i) h

  module _ (e : link_in (link_part t) 0 ≡ between 1 2) where
    first_link : All (LinkRight t) 1
    first_link =
        below_more (LinkRight t) 0 (below_none (LinkRight t))
        (link_right 0 (subst LinkInRange (sym e) (upwards (between 1 2) (omega arith) (omega arith) gigabit (omega arith))))

    second_link : (from to : ℕ) → link_in (link_part t) 1 ≡ between from to → from < to → to ≤ max_node → All (LinkRight t) 2
    second_link from to f h k =
        below_more (LinkRight t) 1 first_link
        (link_right 1 (subst LinkInRange (sym f) (upwards (between from to) h k gigabit (omega arith))))

  -- A table of this link alone.
  one_link : Sized t → link_count t ≡ 1 → link_in (link_part t) 0 ≡ between 1 2 → LinksPassed t
  one_link z n e = record { sized = z; links = λ i h. first_link e i (omega (arith, n)); new_links = λ i h. all_new t 1 refl i (omega (arith, n)) }

  module _ (count : ℕ) (e : stream_in (stream_part t) 0 ≡ record { period = 1000; deadline = 900; octets = 64; first = 0; count = count }) where
    stream_0 : stream_at t 0 ≡ record { period = 1000; deadline = 900; octets = 64; first = 0; count = count }
    stream_0 = sym (stream_of_part t 0) ∙ e

    legs_before_1 : legs_before t 1 ≡ count
    legs_before_1 = legs_more t 0 ∙ omega (arith, legs_none t, ap (λ (s : Stream). s.count) stream_0)

    first_stream : (1 ≤ count) × (count ≤ max_route) × (count ≤ leg_count t) → All (StreamRight t) 1
    first_stream h =
        below_more (StreamRight t) 0 (below_none (StreamRight t))
        (record {
          in_range = subst StreamInRange (sym stream_0)
              (record {
                period_from = omega arith;
                period_to = omega arith;
                deadline_from = omega arith;
                deadline_to = omega arith;
                octets_from = omega arith;
                octets_to = omega arith;
                count_from = h.0;
                count_to = h.1;
              });
          first = omega (arith, legs_none t, ap (λ (s : Stream). s.first) stream_0);
          within = omega (arith, legs_none t, ap (λ (s : Stream). s.count) stream_0, h.2);
        })

link : ShapeFault wrong_link cause.BadLink 2
link =
    inr (sized 3 0 0 _ (omega arith) refl, inl (refl, lowest_of_all (omega arith) bad (second_link wrong_link refl 1 2 refl (omega arith) (omega arith))))
  where
    bad : LinkRight wrong_link 2 → ⊥
    bad r =
        let e = link_of_part wrong_link 2 in
        r.different (sym (ap (λ (z : Link). z.from) e) ∙ ap (λ (z : Link). z.to) e)

link_again_lem : ShapeFault link_again cause.DoubleLink 2
link_again_lem = inr (sized 3 1 0 _ (omega arith) refl, inr (links, inl (refl, lowest_of_all (omega arith) bad (all_new link_again 2 refl))))
  where
    links : All (LinkRight link_again) 3
    links =
        below_more
        (LinkRight link_again)
        2
        (second_link link_again refl 2 3 refl (omega arith) (omega arith))
        (link_right link_again 2 (upwards _ (omega arith) (omega arith) hundred_megabit (omega arith)))

    bad : LinkNew link_again 2 → ⊥
    bad new =
        let e = link_of_part link_again 0 in
        let f = link_of_part link_again 2 in
        new
        0
        (omega arith)
        (record {
          from_node = sym (ap (λ (z : Link). z.from) e) ∙ ap (λ (z : Link). z.from) f;
          to_node = sym (ap (λ (z : Link). z.to) e) ∙ ap (λ (z : Link). z.to) f;
        })

stream : ShapeFault wrong_stream cause.BadStream 1
stream =
    past_links wrong_stream cause.BadStream 1 (one_link wrong_stream (sized 1 2 2 _ (omega arith) refl) refl refl)
    (inl (refl, lowest_of_all (omega arith) bad (first_stream wrong_stream 1 refl (omega arith, omega arith, omega arith))))
  where
    bad : StreamRight wrong_stream 1 → ⊥
    bad r = omega (arith, r.first, ap (λ (s : Stream). s.first) (stream_of_part wrong_stream 1), legs_before_1 wrong_stream 1 refl)

fewer_legs_lem : ShapeFault fewer_legs cause.BadStream 1
fewer_legs_lem =
    past_links fewer_legs cause.BadStream 1 (one_link fewer_legs (sized 1 1 2 _ (omega arith) refl) refl refl)
    (inr (
      first_stream fewer_legs 1 refl (omega arith, omega arith, omega arith),
      inl (refl, refl, λ e. omega (arith, e, legs_before_1 fewer_legs 1 refl)),
    ))

leg : ShapeFault wrong_leg cause.BadLeg 1
leg =
    let link_0 = sym (link_of_part wrong_leg 0) in
    let link_1 = sym (link_of_part wrong_leg 1) in
    let leg_0 = sym (leg_of_part wrong_leg 0) in
    let leg_1 = sym (leg_of_part wrong_leg 1) in
    let its_stream = stream_0 wrong_leg 2 refl in
    let bad : LegRight wrong_leg 1 → ⊥ = λ r.
    let first = ap (λ (s : Stream). s.first) (stream_of_lem wrong_leg 1 0 _ _ leg_1 refl its_stream) in
    let from = ap (λ (l : Link). l.from) (link_of_lem wrong_leg 1 1 _ _ leg_1 refl link_1) in
    let to = ap (λ (l : Link). l.to) (link_of_lem wrong_leg 0 0 _ _ leg_0 refl link_0) in
    omega (arith, r.joined 0 (omega arith) refl) in
    let before : All (LegRight wrong_leg) 1 =
    below_more
    (LegRight wrong_leg)
    0
    (below_none (LegRight wrong_leg))
    (first_leg_right wrong_leg 0 0 0 _ _ _ (omega arith) (omega arith) leg_0 refl refl (omega arith) its_stream refl (omega arith) link_0 (λ e. omega (arith, e))) in
    past_links wrong_leg cause.BadLeg 1 links
    (inr (
      first_stream wrong_leg 2 refl (omega arith, omega arith, omega arith),
      inr (legs_before_1 wrong_leg 2 refl, (refl, lowest_of_all (omega arith) bad before)),
    ))
  where
    links : LinksPassed wrong_leg
    links = record {
      sized = sized 2 1 2 _ (omega arith) refl;
      links = second_link wrong_leg refl 3 4 refl (omega arith) (omega arith);
      new_links = all_new wrong_leg 2 refl;
    }

module _ (period deadline periods : ℕ) where
  abbrev one : List ℕ
  one = one_leg period deadline periods

  links_pass : LinksPassed one
  links_pass = one_link one (sized 1 1 1 _ (omega arith) refl) refl refl

  only_stream : (1 ≤ period) × (period ≤ max_period) × (1 ≤ deadline) × (deadline ≤ max_periods_due * period) → All (StreamRight one) 1
  only_stream h =
      below_more (StreamRight one) 0 (below_none (StreamRight one))
      (stream_placed one 0 (legs_none one) (in_range _ (h.2, h.3, h.1) (omega arith, omega arith) (omega arith, omega arith)) (omega arith))

  -- Its deadline is too long: 6, whatever its leg.
  due_late : max_periods_due * period < deadline → TableRefused one cause.BadStream 0
  due_late l =
      refused one cause.BadStream 0
      (past_links one cause.BadStream 0 links_pass (inl (refl, lowest_of_all (omega arith) bad (below_none (StreamRight one)))))
    where
      bad : StreamRight one 0 → ⊥
      bad r =
          let e = stream_of_part one 0 in
          omega (arith, r.in_range.deadline_to, ap (λ (s : Stream). s.deadline) e, ap (λ (s : Stream). s.period) e)

  module _ (h : (1 ≤ period) × (period ≤ max_period) × (1 ≤ deadline) × (deadline ≤ max_periods_due * period)) where
    leg_late : max_periods < periods → TableRefused one cause.BadLeg 0
    leg_late l =
        refused one cause.BadLeg 0
        (past_links one cause.BadLeg 0 links_pass
        (inr (only_stream h, inr (before_next one 0 (legs_none one), (refl, lowest_of_all (omega arith) bad (below_none (LegRight one)))))))
      where
        bad : LegRight one 0 → ⊥
        bad r = omega (arith, r.in_range.periods, ap (λ (x : Leg). x.periods) (leg_of_part one 0))

    well : periods ≤ max_periods → WellFormedTable one
    well l = record {
      sized = links_pass.sized;
      links = links_pass.links;
      new_links = links_pass.new_links;
      streams = only_stream h;
      counts = before_next one 0 (legs_none one);
      legs = below_more (LegRight one) 0 (below_none (LegRight one))
          (leg_on_lem one 0 (omega arith) (omega arith) l (omega arith) (omega arith) (only_leg one 0 (λ e. absurd (omega (arith, e)))));
    }

late : LateAtNumbers
late = record {
  latest = well _ _ _ (omega arith, omega arith, omega arith, omega arith) (omega arith);
  too_late_is = leg_late _ _ _ (omega arith, omega arith, omega arith, omega arith) (omega arith);
  due_too_late = due_late _ _ _ (omega arith);
  word_full = well _ _ _ (omega arith, omega arith, omega arith, omega arith) (omega arith);
  word_over = due_late _ _ _ (omega arith);
  word_end = well _ _ _ (omega arith, omega arith, omega arith, omega arith) (omega arith);
  longest = well _ _ _ (omega arith, omega arith, omega arith, omega arith) (omega arith);
}

pub shape_refusals_at_numbers : ShapeRefusalsAtNumbers
shape_refusals_at_numbers = record {
  four_words_is = refused _ cause.NoHeader 0 (inl (inl (refl, refl, λ h. omega arith)));
  links_above_is = above _ _ _ _ (λ h. omega (arith, h.links));
  streams_above = above _ _ _ _ (λ h. omega (arith, h.streams));
  legs_above = above _ _ _ _ (λ h. omega (arith, h.legs));
  precision_above = above _ _ _ _ (λ h. omega (arith, h.precision));
  at_the_limits = length_differs _ _ _ _ _ (omega arith, omega arith, omega arith, omega arith) (λ e. omega (arith, e));
  word_more_is = length_differs _ _ _ _ _ (omega arith, omega arith, omega arith, omega arith) (λ e. omega (arith, e));
  link = refused _ cause.BadLink 2 link;
  link_again_lem = refused _ cause.DoubleLink 2 link_again_lem;
  stream = refused _ cause.BadStream 1 stream;
  fewer_legs_lem = refused _ cause.BadStream 1 fewer_legs_lem;
  leg = refused _ cause.BadLeg 1 leg;
  late = late;
}
