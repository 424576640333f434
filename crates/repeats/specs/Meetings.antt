-- Where two legs on one link first meet: the earliest instant at which both hold the link, and the repeats of each to which it belongs. An instant is a whole nanosecond
-- (crates/overlap/specs/Meeting.antt).
use Rattle.std.specs.Prelude.{ℕ, ◌+◌, ◌*◌, ◌≤◌, ◌<◌, Option, Some, None}
use Rattle.overlap.specs.Meeting.{HoldsLink, NeverMeet}
use Rattle.overlap.specs.declared.Slot.{Slot}
use Rattle.repeats.specs.declared.Meeting.{Meeting}

-- At instant x repeat k of the slot s is the last that has begun: it has, and the next has not. There is one such repeat, also where a leg holds its link longer than its period.
pub record LastBegun (s : Slot) (k x : ℕ) : Type 0 where
  pub begun : s.offset + k * s.period ≤ x
  pub next_not : x < s.offset + (k + 1) * s.period

-- THE FIRST MEETING of slots a and b: both hold the link at the instant, in repeats of theirs that are the last that have begun, and at no earlier instant do both hold it.
pub record IsFirstMeeting (a b : Slot) (met : Meeting) : Type 0 where
  pub first_holds : HoldsLink a met.first met.instant
  pub second_holds : HoldsLink b met.second met.instant
  pub first_last : LastBegun a met.first met.instant
  pub second_last : LastBegun b met.second met.instant
  pub earliest : (k m y : ℕ) → HoldsLink a k y → HoldsLink b m y → met.instant ≤ y

-- The whole answer: the first meeting, or that there is none.
abbrev pub MeetsFirst : Slot → Slot → Option Meeting → Type 0
MeetsFirst a b (Some met) = IsFirstMeeting a b met
MeetsFirst a b None = NeverMeet a b
