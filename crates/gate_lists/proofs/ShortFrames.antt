-- Legs with frames of 64 octets on links of 1 Gb/s, in tables that are given word by word: their slots, and when they are ready. Assumes nothing.
use Prim.Native.Nat.{ℕ, ◌+◌}
use mathlib.Core.Path.{◌≡◌, refl, sym, ◌∙◌, ap}
use mathlib.Core.List.{List}
use native.Mathlib.Omega.{arith}
use Rattle.table.specs.Layout.{precision_of}
use Rattle.table.specs.Records.{leg_at}
use Rattle.table.specs.declared.Link.{Link}
use Rattle.table.specs.declared.Leg.{Leg}
use Rattle.table.proofs.PartLaws.{leg_of_part}
use Rattle.shape.specs.Legs.{link_of, stream_of}
use Rattle.shape.proofs.Reading.{leg_on, stream_on, link_on, stream_on_is, link_on_is}
use Rattle.overlap.specs.declared.Slot.{Slot}
use Rattle.rules.specs.Times.{wire_time, start_of, slot_of, ready_of}
use Rattle.rules.proofs.Said.{on_time}
use Rattle.rules.proofs.AtNumbers.{starred_cases, gap_cases}

-- Such a frame holds its link for 672 ns.
abbrev pub slot : ℕ → ℕ → Slot
slot offset period = record { offset = offset; period = period; hold = 672 }

-- The link of a leg.
pub link_is : (t : List ℕ) (a : ℕ) → (leg_at t a).link ≡ (leg_on t a).link
link_is t a = sym (ap (λ (l : Leg). l.link) (leg_of_part t a))

module _ (t : List ℕ) (a : ℕ) where
  -- It starts at its offset where it does not lie late.
  pub start_is : (leg_on t a).periods ≡ 0 → start_of t a ≡ (leg_on t a).offset
  start_is periods = on_time t a (sym (ap (λ (l : Leg). l.periods) (leg_of_part t a)) ∙ periods) ∙ sym (ap (λ (l : Leg). l.offset) (leg_of_part t a))

  module _ (octets : (stream_on t a).octets ≡ 64) (rate : (link_on t a).rate ≡ 8) where
    pub slot_is : slot_of t a ≡ slot (leg_on t a).offset (stream_on t a).period
    slot_is =
        let offset = ap (λ (l : Leg). l.offset) (leg_of_part t a) in
        let holds = gap_cases.held.0 in
        rw (stream_on_is t a, link_on_is t a, octets, rate, holds, ← offset) refl

    -- Its frame is 576 ns on the wire. With 500 ns to the next node and a precision of 100 ns it is ready 1,176 ns after it starts.
    pub ready_is : (leg_on t a).periods ≡ 0 → (link_on t a).propagation ≡ 500 → precision_of t ≡ 100 → ready_of t a ≡ (leg_on t a).offset + 1176
    ready_is periods propagation precision =
        let wire : wire_time (stream_of t a).octets (link_of t a).rate ≡ 576 = rw (stream_on_is t a, link_on_is t a, octets, rate) starred_cases.case_1.0 in
        omega (arith, start_is periods, ap (λ (l : Link). l.propagation) (link_on_is t a))
