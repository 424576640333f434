-- The numbers decide, and are one. Assumes nothing.
use Prim.Native.Nat.{ℕ, ◌+◌, ◌≤◌, ◌<◌}
use mathlib.Core.Path.{◌≡◌, refl, ◌∙◌, sym, ap, subst}
use mathlib.Core.List.{List}
use native.Mathlib.Nat.{dvd_antisymm}
use native.Mathlib.Omega.{arith}
use Rattle.basics.specs.Refusals.{OneFault}
use Rattle.std.specs.Prelude.{Ok, Err}
use Rattle.basics.specs.declared.Cause.TheVariants as cause
use Rattle.basics.proofs.Refusals.{unless_one, then_one, called_one, same_refusal}
use Rattle.table.specs.Layout.{leg_count}
use Rattle.table.specs.Records.{leg_at}
use Rattle.shape.specs.Legs.{stream_of, first_of, end_of}
use Rattle.shape.specs.Shape.{WellFormedTable}
use Rattle.shape.proofs.OneShape.{shape_one}
use Rattle.shape.proofs.Placed.{well_formed_guarantees}
use Rattle.overlap.specs.Divisor.{IsGcd, IsRemainder}
use Rattle.overlap.proofs.Law.{divisor_law}
use Rattle.overlap.proofs.Remainders.{cancel_start}
use Rattle.rules.specs.Times.{offset_of, ready_of, slot_of}
use Rattle.rules.specs.Rules.{Window, Hop, Deadline, Overlap}
use Rattle.rules.specs.Places.{asked_at, AskedOf, AskedHolds, PlaceHolds}
use Rattle.rules.specs.declared.Asked.{Asked}
use Rattle.rules.specs.declared.Asked.TheVariants as asked
use Rattle.rules.proofs.Asking.{places_are_asked}
use Rattle.rules.proofs.Gap.{holds_some}
use Rattle.margins.specs.Asking.{ask_refusals}
use Rattle.margins.specs.Margins.{WindowSides, HopSides, DeadlineSides, OverlapTurns, AskedMargin, MarginOf}
use Rattle.margins.specs.Spares.{Kept, IsSpare}
use Rattle.margins.specs.Theorems.{MarginsDecide, MarginOneAnswer}
use Rattle.margins.specs.declared.Sides.{Sides}
use Rattle.margins.specs.declared.Turns.{Turns}
use Rattle.margins.specs.declared.Margin.{Margin}
use Rattle.margins.specs.declared.Margin.TheVariants as margin
use Rattle.margins.specs.declared.At.{At}
use Rattle.margins.proofs.SpareLaws.{spare_one_answer}

pub period_some : (t : List ℕ) (a : ℕ) → WellFormedTable t → a < leg_count t → 1 ≤ (stream_of t a).period
period_some t a w h = let g = well_formed_guarantees t w in (g.stream (leg_at t a).stream (g.leg a h).stream).small.period_from

module _ (t : List ℕ) (a : ℕ) where
  window_decides : (s : Sides) → WindowSides t a s → (Window t a → s.needs ≤ s.has) × (s.needs ≤ s.has → Window t a)
  unfolding Window
  window_decides s is = (λ h. omega (arith, is.needs, is.has, h), λ h. omega (arith, is.needs, is.has, h))

  hop_free : a ≡ first_of t a → Hop t a
  unfolding Hop
  hop_free e b from next = absurd (omega arith)

  hop_decides : (s : Sides) → HopSides t a s → (Hop t a → s.needs ≤ s.has) × (s.needs ≤ s.has → Hop t a)
  unfolding Hop
  hop_decides s is = (
    λ h. omega (arith, is.needs, is.has, h is.previous is.in_stream is.next),
    λ h b from next.
        let e : is.previous ≡ b = omega (arith, is.next) in
        omega (arith, is.needs, is.has, ap (ready_of t) e),
  )

  deadline_free : (a + 1 ≡ end_of t a → ⊥) → Deadline t a
  unfolding Deadline
  deadline_free n e = absurd (n e)

  deadline_decides : (s : Sides) → DeadlineSides t a s → (Deadline t a → s.needs ≤ s.has) × (s.needs ≤ s.has → Deadline t a)
  unfolding Deadline
  deadline_decides s is = (λ h. omega (arith, is.needs, is.has, h is.last), λ h e. omega (arith, is.needs, is.has))

  overlap_free : (b : ℕ) → ((leg_at t a).link ≡ (leg_at t b).link → ⊥) → Overlap t a b
  unfolding Overlap
  overlap_free b n e = absurd (n e)

  overlap_decides : (b : ℕ) (s : Turns) → WellFormedTable t → a < leg_count t → b < leg_count t → OverlapTurns t a b s
      → (Overlap t a b → Kept (margin.Turns s)) × (Kept (margin.Turns s) → Overlap t a b)
  unfolding Overlap
  overlap_decides b s g h k is =
      let law = divisor_law (slot_of t a) (slot_of t b) s.divisor s.after (period_some t a g h) (period_some t b g k) (holds_some t a g h) (holds_some t b g k) is.divisor is.after in (
        λ o. let far = law.0 (o is.same_link) in (omega (arith, far.first, is.hold), omega (arith, far.second, is.other)),
        λ kept e. law.1 (record { first = omega (arith, kept.0, is.hold); second = omega (arith, kept.1, is.other) }),
      )

  asked_decides : (q : Asked) (m : Margin) → WellFormedTable t → a < leg_count t → AskedOf a q → AskedMargin t a q m → (AskedHolds t a q → Kept m) × (Kept m → AskedHolds t a q)
  asked_decides asked.Window margin.Free g h o is = absurd is
  asked_decides asked.Window (margin.Sides s) g h o is = window_decides s is
  asked_decides asked.Window (margin.Turns s) g h o is = absurd is
  asked_decides asked.Hop margin.Free g h o is = (λ k. tt, λ k. hop_free is)
  asked_decides asked.Hop (margin.Sides s) g h o is = hop_decides s is
  asked_decides asked.Hop (margin.Turns s) g h o is = absurd is
  asked_decides asked.Deadline margin.Free g h o is = (λ k. tt, λ k. deadline_free is)
  asked_decides asked.Deadline (margin.Sides s) g h o is = deadline_decides s is
  asked_decides asked.Deadline (margin.Turns s) g h o is = absurd is
  asked_decides (asked.Overlap b) margin.Free g h o is = (λ k. tt, λ k. overlap_free b is)
  asked_decides (asked.Overlap b) (margin.Sides s) g h o is = absurd is
  asked_decides (asked.Overlap b) (margin.Turns s) g h o is = overlap_decides b s g h (omega arith) is

pub margins_decide : MarginsDecide
unfolding PlaceHolds MarginOf
margins_decide t a p m c is =
    asked_decides t a (asked_at p) m c.shape c.place.leg (places_are_asked.asked a p c.place.place) is

-- The same numbers are the same margin.
sides_is : (s s' : Sides) → s.needs ≡ s'.needs → s.has ≡ s'.has → margin.Sides s ≡ margin.Sides s'
sides_is s s' n h =
    let e : ◌≡◌ {A = Sides} (record { needs = s.needs; has = s.has }) (record { needs = s'.needs; has = s'.has }) = cc in
    ap margin.Sides e

turns_is : (s s' : Turns) → s.divisor ≡ s'.divisor → s.after ≡ s'.after → s.hold ≡ s'.hold → s.other ≡ s'.other → margin.Turns s ≡ margin.Turns s'
turns_is s s' d r h o =
    let e : ◌≡◌ {A = Turns}
    (record { divisor = s.divisor; after = s.after; hold = s.hold; other = s.other })
    (record { divisor = s'.divisor; after = s'.after; hold = s'.hold; other = s'.other }) = cc in
    ap margin.Turns e

-- A greatest common divisor is one, and so is a remainder.
one_divisor : {x y g h : ℕ} → IsGcd x y g → IsGcd x y h → g ≡ h
one_divisor {g = g} {h = h} d e = dvd_antisymm (e.greatest g d.left d.right) (d.greatest h e.left e.right)

one_remainder : {x y g r s : ℕ} → IsRemainder x y g r → IsRemainder x y g s → r ≡ s
one_remainder {x} {y} {g} {r} {s} d e = cancel_start x r s g d.below e.below (d.same ∙ sym e.same)

one_turns : (t : List ℕ) (a b : ℕ) (s s' : Turns) → OverlapTurns t a b s → OverlapTurns t a b s' → margin.Turns s ≡ margin.Turns s'
one_turns t a b s s' x y =
    let g = one_divisor x.divisor y.divisor in
    let z : IsRemainder (offset_of t a) (offset_of t b) s.divisor s'.after = rw g y.after in
    turns_is s s' g (one_remainder x.after z) (x.hold ∙ sym y.hold) (x.other ∙ sym y.other)

one_hop : (t : List ℕ) (a : ℕ) (s s' : Sides) → HopSides t a s → HopSides t a s' → margin.Sides s ≡ margin.Sides s'
one_hop t a s s' x y =
    let e : x.previous ≡ y.previous = omega (arith, x.next, y.next) in
    sides_is s s' (x.needs ∙ ap (ready_of t) e ∙ sym y.needs) (x.has ∙ sym y.has)

asked_one : (t : List ℕ) (a : ℕ) (q : Asked) (m m' : Margin) → AskedMargin t a q m → AskedMargin t a q m' → m ≡ m'
asked_one t a asked.Window (margin.Sides s) (margin.Sides s') x y = sides_is s s' (x.needs ∙ sym y.needs) (x.has ∙ sym y.has)
asked_one t a asked.Window margin.Free m x y = absurd x
asked_one t a asked.Window (margin.Turns s) m x y = absurd x
asked_one t a asked.Window (margin.Sides s) margin.Free x y = absurd y
asked_one t a asked.Window (margin.Sides s) (margin.Turns s') x y = absurd y
asked_one t a asked.Hop margin.Free margin.Free x y = refl
asked_one t a asked.Hop margin.Free (margin.Sides s) x y = absurd (omega (arith, y.in_stream, y.next))
asked_one t a asked.Hop margin.Free (margin.Turns s) x y = absurd y
asked_one t a asked.Hop (margin.Sides s) margin.Free x y = absurd (omega (arith, x.in_stream, x.next))
asked_one t a asked.Hop (margin.Sides s) (margin.Sides s') x y = one_hop t a s s' x y
asked_one t a asked.Hop (margin.Sides s) (margin.Turns s') x y = absurd y
asked_one t a asked.Hop (margin.Turns s) m x y = absurd x
asked_one t a asked.Deadline margin.Free margin.Free x y = refl
asked_one t a asked.Deadline margin.Free (margin.Sides s) x y = absurd (x y.last)
asked_one t a asked.Deadline margin.Free (margin.Turns s) x y = absurd y
asked_one t a asked.Deadline (margin.Sides s) margin.Free x y = absurd (y x.last)
asked_one t a asked.Deadline (margin.Sides s) (margin.Sides s') x y = sides_is s s' (x.needs ∙ sym y.needs) (x.has ∙ sym y.has)
asked_one t a asked.Deadline (margin.Sides s) (margin.Turns s') x y = absurd y
asked_one t a asked.Deadline (margin.Turns s) m x y = absurd x
asked_one t a (asked.Overlap b) margin.Free margin.Free x y = refl
asked_one t a (asked.Overlap b) margin.Free (margin.Sides s) x y = absurd y
asked_one t a (asked.Overlap b) margin.Free (margin.Turns s) x y = absurd (x y.same_link)
asked_one t a (asked.Overlap b) (margin.Sides s) m x y = absurd x
asked_one t a (asked.Overlap b) (margin.Turns s) margin.Free x y = absurd (y x.same_link)
asked_one t a (asked.Overlap b) (margin.Turns s) (margin.Sides s') x y = absurd y
asked_one t a (asked.Overlap b) (margin.Turns s) (margin.Turns s') x y = one_turns t a b s s' x y

pub ask_one : (t : List ℕ) (a p : ℕ) → OneFault (ask_refusals t a p)
ask_one t a p = called_one (then_one (shape_one t) (unless_one cause.NoPlace _)) (λ c. (c.shape, c.place))

pub margin_one_answer : MarginOneAnswer
unfolding MarginOf
margin_one_answer t a p (Ok r) (Ok r') x y =
    let e : r.margin ≡ r'.margin = asked_one t a (asked_at p) r.margin r'.margin x.1 y.1 in
    let f : r.spare ≡ r'.spare = spare_one_answer r'.margin r.spare r'.spare (subst (λ (z : Margin). IsSpare z r.spare) e x.2) y.2 in
    let g : ◌≡◌ {A = At} (record { margin = r.margin; spare = r.spare }) (record { margin = r'.margin; spare = r'.spare }) = cc in
    ap Ok g
margin_one_answer t a p (Ok r) (Err e) x f = absurd ((ask_one t a p).none x.0 f)
margin_one_answer t a p (Err e) (Ok r) f x = absurd ((ask_one t a p).none x.0 f)
margin_one_answer t a p (Err e) (Err h) f g = let i = (ask_one t a p).one f g in same_refusal i.0 i.1
