-- Window and overlap keep the gap: a frame holds its link for its wire time and the gap. Assumes nothing.
use Prim.Native.Nat.{ℕ, ◌+◌, ◌*◌, ◌≤◌, ◌<◌}
use mathlib.Core.Path.{◌≡◌, ◌∙◌, ap}
use mathlib.Core.List.{List}
use mathlib.Core.Logic.{inl, inr, ⊎_elim}
use native.Mathlib.Nat.{add-mul, mul-le-mul_right}
use native.Mathlib.Omega.{arith}
use Rattle.basics.proofs.Splits.{lt_or_ge}
use Rattle.table.specs.Layout.{leg_count}
use Rattle.table.specs.Records.{leg_at}
use Rattle.shape.specs.Shape.{WellFormedTable}
use Rattle.shape.specs.Legs.{link_of, stream_of}
use Rattle.shape.proofs.Placed.{well_formed_guarantees}
use Rattle.overlap.specs.Meeting.{NeverMeet}
use Rattle.overlap.proofs.Law.{meeting_is_symmetric}
use Rattle.rules.specs.Times.{preamble_octets, gap_octets, hold_octets, lasting, wire_time, hold_time, hold_of, wire_of, slot_of}
use Rattle.rules.specs.Rules.{Window, Overlap}
use Rattle.rules.specs.Gap.{sent_in, gap_of, OverlapIsTheGap, WindowKeepsTheGap}

-- A frame holds its link for its wire time and the gap.
hold_is : (octets rate : ℕ) → hold_time octets rate ≡ wire_time octets rate + lasting gap_octets rate
unfolding hold_time wire_time lasting
hold_is octets rate =
    let all : octets + hold_octets ≡ octets + preamble_octets + gap_octets = omega arith in
    ap (λ (n : ℕ). n * rate) all ∙ add-mul (octets + preamble_octets) gap_octets rate

hold_of_lem : (t : List ℕ) (a : ℕ) → hold_of t a ≡ wire_of t a + gap_of t a
hold_of_lem t a = hold_is (stream_of t a).octets (link_of t a).rate

-- The gap lasts some time, and so does every hold.
gap_lasts : (t : List ℕ) (a : ℕ) → WellFormedTable t → a < leg_count t → 1 ≤ gap_of t a
unfolding lasting
gap_lasts t a w h =
    let g = well_formed_guarantees t w in
    let fast = (g.link (leg_at t a).link (g.leg a h).link).rate_from in
    omega (arith, fast)

pub holds_some : (t : List ℕ) (a : ℕ) → WellFormedTable t → a < leg_count t → 1 ≤ hold_of t a
holds_some t a w h = omega (arith, hold_of_lem t a, gap_lasts t a w h)

-- Of two legs that never meet, the frame that is sent first holds the link no longer than until the other is sent: then both would hold it.
ended : (t : List ℕ) (a b k m : ℕ) → NeverMeet (slot_of t a) (slot_of t b) → 1 ≤ hold_of t b → sent_in t a k ≤ sent_in t b m → sent_in t a k + hold_of t a ≤ sent_in t b m
unfolding NeverMeet
ended t a b k m never some first =
    ⊎_elim
    (λ (early : sent_in t b m < sent_in t a k + hold_of t a). absurd (never k m (sent_in t b m) (record { begun = first; not_ended = early }) (record { begun = omega arith; not_ended = omega arith })))
    (λ (z : sent_in t a k + hold_of t a ≤ sent_in t b m). z)
    (lt_or_ge (sent_in t b m) (sent_in t a k + hold_of t a))

pub overlap_is_the_gap : OverlapIsTheGap
unfolding Overlap NeverMeet
overlap_is_the_gap t a b w ha hb same =
    let of-a = hold_of_lem t a in
    let of-b = hold_of_lem t b in (
      λ o k m.
          ⊎_elim
          (λ (x : sent_in t a k < sent_in t b m). inl (omega (arith, of-a, ended t a b k m (o same) (holds_some t b w hb) (omega arith))))
          (λ (x : sent_in t b m ≤ sent_in t a k). inr (omega (arith, of-b, ended t b a m k (meeting_is_symmetric _ _ (o same)) (holds_some t a w ha) x)))
          (lt_or_ge (sent_in t a k) (sent_in t b m)),
      λ kept e k m x p q.
          ⊎_elim
          (λ (z : _ ≤ sent_in t b m). omega (arith, of-a, p.not_ended, q.begun))
          (λ (z : _ ≤ sent_in t a k). omega (arith, of-b, q.not_ended, p.begun))
          (kept k m),
    )

pub window_keeps_the_gap : WindowKeepsTheGap
unfolding Window
window_keeps_the_gap t a k m inside later =
    let next : (k + 1) * (stream_of t a).period ≤ m * (stream_of t a).period = mul-le-mul_right (stream_of t a).period (omega arith) in
    let e = add-mul k 1 (stream_of t a).period in
    omega (arith, hold_of_lem t a)
