-- What the inner functions of this crate tell of two slots.
use Rattle.std.specs.Prelude.{ℕ, ◌+◌, ◌*◌, ◌≤◌, ◌<◌, ◌≡◌, Option, Some, None}
use Rattle.numbers.specs.Number.{max_word}
use Rattle.overlap.specs.Meeting.{HoldsLink}
use Rattle.overlap.specs.declared.Slot.{Slot}
use Rattle.repeats.specs.Meetings.{LastBegun}
use Rattle.repeats.specs.Landings.{longest_period}
use Rattle.repeats.specs.declared.Entry.{Entry}
use Rattle.repeats.specs.declared.Meeting.{Meeting}

-- A slot whose first meeting can be told: a period of 1 ns to 1 s, a hold time of at least 1 ns, and an offset and a hold time that a word holds.
pub record Brief (s : Slot) : Type 0 where
  pub period_from : 1 ≤ s.period
  pub period_to : s.period ≤ longest_period
  pub hold_from : 1 ≤ s.hold
  pub hold_to : s.hold ≤ max_word
  pub offset_to : s.offset ≤ max_word

-- The most repeats with which the code computes.
abbrev pub many_repeats : ℕ
many_repeats = max_word + longest_period

-- Repeat k of the slot s begins at instant x or later, and no earlier repeat does.
pub record FirstFrom (s : Slot) (x k : ℕ) : Type 0 where
  pub from : x ≤ s.offset + k * s.period
  pub least : (m : ℕ) → x ≤ s.offset + m * s.period → k ≤ m
  pub word : k ≤ max_word

-- The first repeat of b that does not begin before a does begins so far into the period of a repeat of a.
pub record Enters (a b : Slot) (e : Entry) : Type 0 where
  pub at : b.offset + e.second * b.period ≡ a.offset + e.first * a.period + e.into
  pub into : e.into < a.period
  pub least : (m : ℕ) → a.offset ≤ b.offset + m * b.period → e.second ≤ m
  pub first_word : e.first ≤ max_word
  pub second_word : e.second ≤ max_word

-- The instant at which a repeat of b begins, with a repeat of another slot.
abbrev pub beginning_of : Slot → ℕ → ℕ → Meeting
beginning_of b first second = record { first = first; second = second; instant = b.offset + second * b.period }

-- The earliest repeat of b that begins while a holds the link, with the last repeat of a that has begun then.
pub record IsFirstBeginning (a b : Slot) (met : Meeting) : Type 0 where
  pub holds : HoldsLink a met.first met.instant
  pub last : LastBegun a met.first met.instant
  pub begins : met.instant ≡ b.offset + met.second * b.period
  pub earliest : (k m : ℕ) → HoldsLink a k (b.offset + m * b.period) → met.second ≤ m

-- It, or that b never begins while a holds the link.
abbrev pub BeginsFirst : Slot → Slot → Option Meeting → Type 0
BeginsFirst a b (Some met) = IsFirstBeginning a b met
BeginsFirst a b None = (k m : ℕ) → HoldsLink a k (b.offset + m * b.period) → ⊥

-- The same meeting, told of b and a.
abbrev pub exchanged_meeting : Meeting → Meeting
exchanged_meeting met = record { first = met.second; second = met.first; instant = met.instant }

abbrev pub exchanged : Option Meeting → Option Meeting
exchanged (Some met) = Some (exchanged_meeting met)
exchanged None = None
