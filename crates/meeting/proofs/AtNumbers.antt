-- First meetings in Plan A: its legs' slots compute from its words, and first meetings of slots are known at numbers. Assumes nothing.
use Rattle.std.specs.Prelude.{Option, None}
use Prim.Native.Nat.{ℕ, ◌<◌}
use mathlib.Core.Path.{◌≡◌, refl, ◌∙◌, sym, ap, subst}
use mathlib.Core.List.{List}
use mathlib.Core.Logic.{inl, inr}
use native.Mathlib.Omega.{arith}
use Rattle.table.specs.Records.{leg_at}
use Rattle.table.specs.declared.Leg.{Leg}
use Rattle.table.proofs.PartLaws.{leg_of_part}
use Rattle.shape.proofs.AtNumbers.{plan_a_is_well_formed}
use Rattle.shape.proofs.Reading.{leg_on, stream_on, link_on, stream_on_is, link_on_is}
use Rattle.overlap.specs.Theorems.{in100000, in150000}
use Rattle.overlap.specs.declared.Slot.{Slot}
use Rattle.rules.specs.Times.{slot_of}
use Rattle.rules.proofs.AtNumbers.{gap_cases}
use Rattle.rules.proofs.Judging.{other_links}
use Rattle.rules.proofs.Said.{overlap_says}
use Rattle.repeats.specs.AtNumbers as slots
use Rattle.repeats.specs.Meetings.{IsFirstMeeting, MeetsFirst}
use Rattle.repeats.specs.declared.Meeting.{Meeting}
use Rattle.repeats.proofs.AtNumbers.{first_meetings_at_numbers}
use Rattle.repeats.proofs.OneAnswer.{first_meeting_is_symmetric}
use Rattle.meeting.specs.Meets.{CanMeet, Meets}
use Rattle.meeting.specs.AtNumbers.{met_at, later_a, MeetingsAtNumbers}
use Rattle.meeting.proofs.OneAnswer.{meetings_exchange}

-- The link of a leg, and the slot of one whose frame has 64 octets on a link of 1 Gb/s.
pub link_is : (t : List ℕ) (a : ℕ) → (leg_at t a).link ≡ (leg_on t a).link
link_is t a = sym (ap (λ (l : Leg). l.link) (leg_of_part t a))

pub slot_is : (t : List ℕ) (a : ℕ) → (stream_on t a).octets ≡ 64 → (link_on t a).rate ≡ 8 → slot_of t a ≡ slots.slot_for (leg_on t a).offset (stream_on t a).period 672
slot_is t a octets rate =
    let offset = ap (λ (l : Leg). l.offset) (leg_of_part t a) in
    let holds = gap_cases.held.0 in
    rw (stream_on_is t a, link_on_is t a, octets, rate, holds, ← offset) refl

module _ (o : ℕ) where
  pub can : (a b : ℕ) → a < 3 → b < 3 → CanMeet (later_a o) a b
  can a b h k = record { shape = plan_a_is_well_formed 0 1176 o; leg_there = h; other_there = k }

  one_link : (leg_at (later_a o) 2).link ≡ (leg_at (later_a o) 0).link
  one_link = link_is (later_a o) 2 ∙ sym (link_is (later_a o) 0)

  slots_tell : (w : Option Meeting) → MeetsFirst (in150000 o 672) (in100000 0 672) w → MeetsFirst (slot_of (later_a o) 2) (slot_of (later_a o) 0) w
  slots_tell w told =
      subst (λ (s : Slot). MeetsFirst s (slot_of (later_a o) 0) w) (sym (slot_is (later_a o) 2 refl refl))
      (subst (λ (s : Slot). MeetsFirst (in150000 o 672) s w) (sym (slot_is (later_a o) 0 refl refl)) told)

itself : IsFirstMeeting (in100000 1176 672) (in100000 1176 672) (record { first = 0; second = 0; instant = 1176 })
itself = record {
  first_holds = record { begun = omega arith; not_ended = omega arith };
  second_holds = record { begun = omega arith; not_ended = omega arith };
  first_last = record { begun = omega arith; next_not = omega arith };
  second_last = record { begun = omega arith; next_not = omega arith };
  earliest = λ k m y p q. omega arith;
}

pub meetings_at_numbers : MeetingsAtNumbers
meetings_at_numbers =
    let known = first_meetings_at_numbers in
    let later : Meets (later_a 50000) 2 0 (met_at 1 2 200000) =
    (can 50000 2 0 (omega arith) (omega arith), record { one_link = one_link 50000; meeting = slots_tell 50000 (slots.met_at 1 2 200000) known.the_other_first }) in
    record {
      at_0 = (can 0 2 0 (omega arith) (omega arith), record { one_link = one_link 0; meeting = slots_tell 0 (slots.met_at 0 0 0) (first_meeting_is_symmetric (in100000 0 672) (in150000 0 672) (slots.met_at 0 0 0) known.at_0) });
      at_50000 = later;
      the_other_first = meetings_exchange.met _ 2 0 _ later;
      at_672 = (can 672 2 0 (omega arith) (omega arith), (overlap_says (later_a 672) 2 0).1 (λ e. slots_tell 672 None (first_meeting_is_symmetric (in100000 0 672) (in150000 672 672) None known.at_672)));
      other_links = (can 0 1 0 (omega arith) (omega arith), other_links (later_a 0) 1 0 (λ e. omega (arith, e, link_is (later_a 0) 0, link_is (later_a 0) 1)));
      itself = (
        can 0 1 1 (omega arith) (omega arith),
        record { one_link = refl; meeting = subst (λ (s : Slot). IsFirstMeeting s s (record { first = 0; second = 0; instant = 1176 })) (sym (slot_is (later_a 0) 1 refl refl)) itself },
      );
      no_leg_3 = (
        inr (plan_a_is_well_formed 0 1176 0, inl (refl, refl, λ h. omega (arith, h))),
        inr (plan_a_is_well_formed 0 1176 0, inr (omega arith, (refl, refl, λ h. omega (arith, h)))),
      );
      no_words = inl (inl (inl (refl, refl, λ h. omega (arith, h))));
    }
