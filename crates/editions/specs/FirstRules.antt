-- The four rules over the numbers of a table of the first layout, in which a leg starts at its offset (document 01, "What must hold"; window and overlap by hold
-- times, document 02, L1).
use Rattle.std.specs.Prelude.{ℕ, ◌+◌, ◌≤◌, ◌<◌, ◌≡◌, List}
use Rattle.table.specs.Layout.{leg_count, precision_of}
use Rattle.table.specs.declared.Link.{Link}
use Rattle.table.specs.declared.Stream.{Stream}
use Rattle.overlap.specs.Meeting.{NeverMeet}
use Rattle.overlap.specs.declared.Slot.{Slot}
use Rattle.rules.specs.Times.{wire_time, hold_time}
use Rattle.editions.specs.First.{first_link_at, first_stream_at, first_leg_at}

-- The link and the stream of leg a.
abbrev pub first_link_of : List ℕ → ℕ → Link
first_link_of u a = first_link_at u (first_leg_at u a).link

abbrev pub first_stream_of : List ℕ → ℕ → Stream
first_stream_of u a = first_stream_at u (first_leg_at u a).stream

-- Leg a as overlap sees it: its offset O, its period T, and its hold time H.
abbrev pub first_slot_of : List ℕ → ℕ → Slot
first_slot_of u a = record {
  offset = (first_leg_at u a).offset;
  period = (first_stream_of u a).period;
  hold = hold_time (first_stream_of u a).octets (first_link_of u a).rate;
}

-- When the frame of leg a is at the next node by every clock: O + W + d + P.
abbrev pub first_ready_of : List ℕ → ℕ → ℕ
first_ready_of u a = (first_leg_at u a).offset + wire_time (first_stream_of u a).octets (first_link_of u a).rate + (first_link_of u a).propagation + precision_of u

-- Window: O + H ≤ T.
abbrev pub FirstWindow : List ℕ → ℕ → Type 0
FirstWindow u a = (first_slot_of u a).offset + (first_slot_of u a).hold ≤ (first_slot_of u a).period

-- Hop, not on a stream's first leg: O ≥ O' + W' + d' + P, the primed values being the previous leg's, b.
abbrev pub FirstHop : List ℕ → ℕ → Type 0
FirstHop u a = (b : ℕ) → (first_stream_of u a).first ≤ b → a ≡ b + 1 → first_ready_of u b ≤ (first_leg_at u a).offset

-- Deadline, on a stream's last leg only: O + W + d + P ≤ D + offset of the stream's first leg.
abbrev pub FirstDeadline : List ℕ → ℕ → Type 0
FirstDeadline u a =
    a + 1 ≡ (first_stream_of u a).first + (first_stream_of u a).count
    → first_ready_of u a ≤ (first_stream_of u a).deadline + (first_leg_at u (first_stream_of u a).first).offset

-- Overlap: where the two legs are on one link, they never hold it at once.
abbrev pub FirstOverlap : List ℕ → ℕ → ℕ → Type 0
FirstOverlap u a b = (first_leg_at u a).link ≡ (first_leg_at u b).link → NeverMeet (first_slot_of u a) (first_slot_of u b)

pub record FirstRulesHold (u : List ℕ) : Type 0 where
  pub window : (a : ℕ) → a < leg_count u → FirstWindow u a
  pub hop : (a : ℕ) → a < leg_count u → FirstHop u a
  pub deadline : (a : ℕ) → a < leg_count u → FirstDeadline u a
  pub overlap : (a b : ℕ) → a < leg_count u → b < leg_count u → (a ≡ b → ⊥) → FirstOverlap u a b
