-- Plan A with other periods and its legs at other offsets: the slots on its links, and its shape. Assumes nothing.
use Prim.Native.Nat.{ℕ, zero, suc, ◌+◌, ◌≤◌, ◌<◌}
use mathlib.Core.Path.{◌≡◌, refl, sym, ◌∙◌, ap}
use mathlib.Core.List.{List}
use mathlib.Core.Logic.{◌⊎◌, inl, inr}
use native.Mathlib.Omega.{arith}
use Rattle.table.specs.Records.{leg_at}
use Rattle.table.specs.PlanA.{plan_with, like_a}
use Rattle.table.specs.declared.Link.{Link}
use Rattle.shape.specs.Streams.{max_period, legs_before, StreamRight}
use Rattle.shape.specs.Legs.{link_of, LegRight}
use Rattle.shape.specs.Routes.{GoesOn}
use Rattle.shape.specs.Shape.{LinkRight, WellFormedTable}
use Rattle.shape.proofs.LinksComputed.{all_new}
use Rattle.shape.proofs.Rates.{gigabit}
use Rattle.shape.proofs.StreamLaws.{legs_none}
use Rattle.shape.proofs.Reading.{link_on_is}
use Rattle.shape.proofs.Computed.{leg_on_lem, only_leg, in_range, link_in_range, before_next, stream_placed}
use Rattle.overlap.specs.declared.Slot.{Slot}
use Rattle.rules.specs.Times.{slot_of}
use Rattle.gate_lists.specs.GateList.{SlotOn}
use Rattle.gate_lists.proofs.TwoSlots.{Two, alone}
use Rattle.gate_lists.proofs.ShortFrames.{slot, slot_is, link_is}

-- Leg 1 begins when leg 0 is ready, so the deadline of 2,352 ns is just kept. Leg 2, the only one of stream 1, is on link 0 as leg 0 is.
module _ (p0 p1 o0 o2 : ℕ) where
  abbrev pub plan : List ℕ
  plan = plan_with (like_a 0 p0 2352 p1 o0 (1176 + o0) o2)

  pub slot_0 : slot_of plan 0 ≡ slot o0 p0
  slot_0 = slot_is plan 0 refl refl

  pub slot_1 : slot_of plan 1 ≡ slot (1176 + o0) p0
  slot_1 = slot_is plan 1 refl refl

  pub slot_2 : slot_of plan 2 ≡ slot o2 p1
  slot_2 = slot_is plan 2 refl refl

  pub link_0 : Two (SlotOn plan 0) (slot o0 p0) (slot o2 p1)
  link_0 = record {
    first = record { leg = 0; there = omega arith; on = link_is plan 0; is = sym slot_0 };
    second = record { leg = 2; there = omega arith; on = link_is plan 2; is = sym slot_2 };
    no_other = λ s on. one_of s on.leg on.there on.on on.is;
  }
    where
      one_of : (s : Slot) (a : ℕ) → a < 3 → (leg_at plan a).link ≡ 0 → s ≡ slot_of plan a → (s ≡ slot o0 p0) ⊎ (s ≡ slot o2 p1)
      one_of s zero h l e = inl (e ∙ slot_0)
      one_of s (suc zero) h l e = absurd (omega (arith, link_is plan 1, l))
      one_of s (suc (suc zero)) h l e = inr (e ∙ slot_2)
      one_of s (suc (suc (suc a))) h l e = absurd (omega arith)

  pub link_1 : Two (SlotOn plan 1) (slot (1176 + o0) p0) (slot (1176 + o0) p0)
  link_1 = alone (record { leg = 1; there = omega arith; on = link_is plan 1; is = sym slot_1 }) (λ s on. only s on.leg on.there on.on on.is)
    where
      only : (s : Slot) (a : ℕ) → a < 3 → (leg_at plan a).link ≡ 1 → s ≡ slot_of plan a → s ≡ slot (1176 + o0) p0
      only s zero h l e = absurd (omega (arith, link_is plan 0, l))
      only s (suc zero) h l e = e ∙ slot_1
      only s (suc (suc zero)) h l e = absurd (omega (arith, link_is plan 2, l))
      only s (suc (suc (suc a))) h l e = absurd (omega arith)

  link_right : (i : ℕ) → i < 2 → LinkRight plan i
  link_right zero h = link_in_range plan 0 (omega arith) (omega arith) (λ e. absurd (omega (arith, e))) gigabit (omega arith)
  link_right (suc zero) h = link_in_range plan 1 (omega arith) (omega arith) (λ e. absurd (omega (arith, e))) gigabit (omega arith)
  link_right (suc (suc i)) h = absurd (omega arith)

  before_1 : legs_before plan 1 ≡ 2
  before_1 = before_next plan 0 (legs_none plan)

  -- Leg 1 goes on from node 2, where leg 0 ends, to node 3.
  goes_on : GoesOn plan 0 1 (link_of plan 1)
  goes_on =
      let from-2 : (link_of plan 1).from ≡ 2 = ap (λ (l : Link). l.from) (link_on_is plan 1) in
      let to-3 : (link_of plan 1).to ≡ 3 = ap (λ (l : Link). l.to) (link_on_is plan 1) in
      let from-1 : (link_of plan 0).from ≡ 1 = ap (λ (l : Link). l.from) (link_on_is plan 0) in
      let to-2 : (b : ℕ) → b ≡ 0 → (link_of plan b).to ≡ 2 = λ b e. ap (λ (c : ℕ). (link_of plan c).to) e ∙ ap (λ (l : Link). l.to) (link_on_is plan 0) in
      record {
        joined = λ b h e. from-2 ∙ sym (to-2 b (omega arith));
        not_start = λ e. omega (arith, e);
        new_node = λ b h l e. omega (arith, e, to-2 b (omega arith));
      }

  leg_right : (a : ℕ) → a < 3 → LegRight plan a
  leg_right zero h = leg_on_lem plan 0 (omega arith) (omega arith) (omega arith) (omega arith) (omega arith) (only_leg plan 0 (λ e. absurd (omega (arith, e))))
  leg_right (suc zero) h = leg_on_lem plan 1 (omega arith) (omega arith) (omega arith) (omega arith) (omega arith) goes_on
  leg_right (suc (suc zero)) h = leg_on_lem plan 2 (omega arith) (omega arith) (omega arith) (omega arith) (omega arith) (only_leg plan 2 (λ e. absurd (omega (arith, e))))
  leg_right (suc (suc (suc a))) h = absurd (omega arith)

  -- Deadlines may be longer than their periods.
  module _ (stream_0 : (672 ≤ p0) × (p0 ≤ max_period)) (stream_1 : (672 ≤ p1) × (p1 ≤ max_period)) where
    stream_right : (i : ℕ) → i < 2 → StreamRight plan i
    stream_right zero h = stream_placed plan 0 (legs_none plan) (in_range _ (omega arith, omega arith, stream_0.1) (omega arith, omega arith) (omega arith, omega arith)) (omega arith)
    stream_right (suc zero) h = stream_placed plan 1 before_1 (in_range _ (omega arith, omega arith, stream_1.1) (omega arith, omega arith) (omega arith, omega arith)) (omega arith)
    stream_right (suc (suc i)) h = absurd (omega arith)

    pub well_formed : WellFormedTable plan
    well_formed = record {
      sized = record {
        head = omega arith;
        limits = record { links = omega arith; streams = omega arith; legs = omega arith; precision = omega arith };
        exact = refl;
      };
      links = link_right;
      new_links = all_new plan _ refl;
      streams = stream_right;
      counts = before_next plan 1 before_1;
      legs = leg_right;
    }
