-- What `meeting` promises, by the cases of its answer: where two legs of a table first meet on their link.
use Rattle.std.specs.Prelude.{ℕ, ◌<◌, ◌≡◌, List, Option, Some, None, Result, Ok, Err}
use Rattle.basics.specs.Refusals.{Refusals, unless, ◌then◌, ◌called◌}
use Rattle.basics.specs.declared.Cause.TheVariants as cause
use Rattle.basics.specs.declared.Refusal.{Refusal}
use Rattle.table.specs.Layout.{leg_count}
use Rattle.table.specs.Records.{leg_at}
use Rattle.shape.specs.Shape.{WellFormedTable, shape_refusals}
use Rattle.rules.specs.Times.{slot_of}
use Rattle.rules.specs.Rules.{Overlap}
use Rattle.repeats.specs.Meetings.{IsFirstMeeting}
use Rattle.repeats.specs.declared.Meeting.{Meeting}

-- Two legs can be asked for: the table is well-formed and has both.
pub record CanMeet (t : List ℕ) (leg other : ℕ) : Type 0 where
  pub shape : WellFormedTable t
  pub leg_there : leg < leg_count t
  pub other_there : other < leg_count t

-- The refusals in their order: 1 to 7, then 10 for the one leg and 10 for the other.
abbrev pub meeting_refusals : List ℕ → ℕ → ℕ → Refusals
meeting_refusals t leg other = shape_refusals t then unless cause.NoLeg (leg < leg_count t) then unless cause.NoLeg (other < leg_count t) called CanMeet t leg other

-- The two legs are on one link, and this is their first meeting there.
pub record FirstMeetingOf (t : List ℕ) (leg other : ℕ) (met : Meeting) : Type 0 where
  pub one_link : (leg_at t leg).link ≡ (leg_at t other).link
  pub meeting : IsFirstMeeting (slot_of t leg) (slot_of t other) met

-- WHERE TWO LEGS of table t MEET. None: they are on different links, or never hold their link at once; this is the rule of overlap.
abbrev pub Meets : List ℕ → ℕ → ℕ → Result (Option Meeting) Refusal → Type 0
Meets t leg other (Ok (Some met)) = CanMeet t leg other × FirstMeetingOf t leg other met
Meets t leg other (Ok None) = CanMeet t leg other × Overlap t leg other
Meets t leg other (Err e) = (meeting_refusals t leg other).Fault e.cause e.at
