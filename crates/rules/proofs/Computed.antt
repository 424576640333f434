-- Tables that are given word by word: each of their legs is a frame that computes, of which the laws of the rules' tests say whether the rule holds. Assumes nothing.
use Prim.Native.Nat.{ℕ, ◌+◌, ◌≤◌, ◌<◌}
use mathlib.Core.Path.{◌≡◌, refl, ◌∙◌, sym, ap}
use mathlib.Core.List.{List}
use native.Mathlib.Omega.{arith}
use Rattle.table.specs.Layout.{leg_count, precision_of, max_precision}
use Rattle.table.specs.Records.{leg_at}
use Rattle.table.specs.declared.Leg.{Leg}
use Rattle.table.proofs.PartLaws.{leg_of_part}
use Rattle.shape.specs.Links.{max_propagation}
use Rattle.shape.proofs.Reading.{leg_on, stream_on, link_on, stream_on_is, link_on_is}
use Rattle.rules.specs.Times.{start_time, wire_time, hold_time}
use Rattle.rules.specs.Rules.{Hop, Deadline, Overlap}
use Rattle.rules.specs.Steps.{FrameOf, ReadyOf}
use Rattle.rules.specs.declared.Frame.{Frame}
use Rattle.rules.proofs.Judging.{hop_kept, hop_broken, deadline_kept, late_last_leg, other_links}
use Rattle.rules.proofs.CasePlans.{frame_with, timed, frame_of, ready_of_lem}

-- Leg a of a table that is given word by word: how long its frame is on the wire and holds its link, when it starts, and its frame.
abbrev pub wire_on : List ℕ → ℕ → ℕ
wire_on t a = wire_time (stream_on t a).octets (link_on t a).rate

abbrev pub hold_on : List ℕ → ℕ → ℕ
hold_on t a = hold_time (stream_on t a).octets (link_on t a).rate

abbrev pub start_on : List ℕ → ℕ → ℕ
start_on t a = start_time (leg_on t a).offset (leg_on t a).periods (stream_on t a).period

abbrev pub frame_on : List ℕ → ℕ → Frame
frame_on t a = frame_with (leg_on t a) (stream_on t a) (link_on t a) (start_on t a) (wire_on t a) (hold_on t a)

-- It repeats and lasts, and its numbers are small.
pub record Near (t : List ℕ) (a : ℕ) : Type 0 where
  pub repeats : 1 ≤ (stream_on t a).period
  pub lasts : (1 ≤ wire_on t a) × (1 ≤ hold_on t a)
  pub small : (leg_on t a).offset + start_on t a + (stream_on t a).period + (stream_on t a).deadline + (link_on t a).propagation + wire_on t a + hold_on t a ≤ max_propagation

frame_on_lem : (t : List ℕ) (a : ℕ) → Near t a → FrameOf t a (frame_on t a)
frame_on_lem t a h =
    let s = h.small in
    frame_of t a _ _ _ _ _ _ (sym (leg_of_part t a)) (stream_on_is t a) (link_on_is t a)
    (record { same = refl; small = omega arith }) (timed _ h.lasts.0 (omega arith)) (timed _ h.lasts.1 (omega arith))
    (record { offset = omega arith; period = (h.repeats, omega arith); deadline = omega arith; propagation = omega arith })

module _ (t : List ℕ) (precise : precision_of t ≤ max_precision) (near : (a : ℕ) → a < leg_count t → Near t a) where
  module _ (a : ℕ) (inside : a < leg_count t) where
    pub frame : FrameOf t a (frame_on t a)
    frame = frame_on_lem t a (near a inside)

    abbrev pub ready_on : ℕ
    ready_on = start_on t a + wire_on t a + (link_on t a).propagation + precision_of t

    pub ready : ReadyOf t a ready_on
    ready = ready_of_lem t a (frame_on t a) frame precise

  -- The hop from leg b to leg a, which is the next one.
  module _ (a b : ℕ) (inside : a < leg_count t) (next : a ≡ b + 1) where
    pub hop : ready_on b (omega arith) ≤ start_on t a → Hop t a
    hop le = hop_kept t a b _ _ (frame a inside) next (ready b (omega arith)) le

    pub no_hop : (stream_on t a).first < a → start_on t a < ready_on b (omega arith) → Hop t a → ⊥
    no_hop later lt = hop_broken t a b _ _ (frame a inside) later next (ready b (omega arith)) lt

  -- The deadline of leg a, which counts from the first leg of its stream.
  module _ (a : ℕ) (inside : a < leg_count t) (first : (stream_on t a).first < leg_count t) where
    abbrev pub due : ℕ
    due = (stream_on t a).deadline + start_on t (stream_on t a).first

    pub in_time : ready_on a inside ≤ due → Deadline t a
    in_time le = deadline_kept t a _ _ _ (frame a inside) (frame _ first) (ready a inside) le

    pub late : a + 1 ≡ (frame_on t a).end → due < ready_on a inside → Deadline t a → ⊥
    late last lt = late_last_leg t a _ _ _ (frame a inside) (frame _ first) (ready a inside) last lt

  -- Two legs, on different links or on one.
  pub link : (a : ℕ) → (leg_on t a).link ≡ (leg_at t a).link
  link a = ap (λ (l : Leg). l.link) (leg_of_part t a)

  pub apart : (a b : ℕ) → ((leg_on t b).link ≡ (leg_on t a).link → ⊥) → Overlap t a b
  apart a b different = other_links t a b (λ e. different (link b ∙ e ∙ sym (link a)))
