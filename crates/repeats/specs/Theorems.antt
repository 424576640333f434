-- What is proved of first meetings.
use Rattle.std.specs.Prelude.{◌≡◌, Option, Some, None}
use Rattle.overlap.specs.Meeting.{NeverMeet}
use Rattle.overlap.specs.declared.Slot.{Slot}
use Rattle.repeats.specs.Meetings.{IsFirstMeeting, MeetsFirst}
use Rattle.repeats.specs.Steps.{exchanged}
use Rattle.repeats.specs.declared.Meeting.{Meeting}

-- One answer: one instant, and one repeat of each.
abbrev pub FirstMeetingOneAnswer : Type 0
FirstMeetingOneAnswer = (a b : Slot) (r r' : Option Meeting) → MeetsFirst a b r → MeetsFirst a b r' → r ≡ r'

-- A first meeting is told exactly where the slots meet.
pub record FirstMeetingsShowMeetings : Type 0 where
  pub met : (a b : Slot) (met : Meeting) → IsFirstMeeting a b met → NeverMeet a b → ⊥
  pub never : (a b : Slot) (r : Option Meeting) → MeetsFirst a b r → NeverMeet a b → r ≡ None
  pub meets : (a b : Slot) (r : Option Meeting) → MeetsFirst a b r → (NeverMeet a b → ⊥) → (met : Meeting) × (r ≡ Some met)

-- The first meeting of b and a is that of a and b, with the repeats exchanged.
abbrev pub FirstMeetingIsSymmetric : Type 0
FirstMeetingIsSymmetric = (a b : Slot) (r : Option Meeting) → MeetsFirst a b r → MeetsFirst b a (exchanged r)
