-- What the call for C promises that tells where two legs of the plan of a plan file first meet.
use Rattle.std.specs.Prelude.{ℕ, List, Result, Ok, Err, Option, Some, None}
use Rattle.basics.specs.Cause.{number_of, refused}
use Rattle.basics.specs.declared.Refusal.{Refusal}
use Rattle.repeats.specs.declared.Meeting.{Meeting}
use Rattle.meeting.specs.Meets.{Meets}
use Rattle.host.specs.declared.first_meeting.MeetingNumbers.{MeetingNumbers}
use Rattle.host.specs.Answers.{refused_result}
use Rattle.host.specs.OfPlans.{OfPlan, InNumbers}

-- 0 where the two legs never meet, and 1 where they do: with the last repeat of each that has begun then, and the instant. Refused: 100 plus the number, and the position.
abbrev pub meeting_numbers : Result (Option Meeting) Refusal → MeetingNumbers
meeting_numbers (Ok None) = record { result = 0; position = 0; first = 0; second = 0; instant = 0 }
meeting_numbers (Ok (Some m)) = record { result = 1; position = 0; first = m.first; second = m.second; instant = m.instant }
meeting_numbers (Err e) = record { result = refused_result (number_of e.cause); position = e.at; first = 0; second = 0; instant = 0 }

-- The first meeting of two legs of the plan. The refusals in their order: 12, 13, 2 and 14 of the plan file, then 4 to 7 of its table, then 10.
abbrev pub PlanMeets : List ℕ → ℕ → ℕ → Result (Option Meeting) Refusal → Type 0
PlanMeets plan leg other = OfPlan (Result (Option Meeting) Refusal) refused (λ (t : List ℕ). Meets t leg other) plan

-- A FIRST MEETING, in numbers.
abbrev pub HostMeets : List ℕ → ℕ → ℕ → MeetingNumbers → Type 0
HostMeets plan leg other = InNumbers (Result (Option Meeting) Refusal) MeetingNumbers (PlanMeets plan leg other) meeting_numbers
