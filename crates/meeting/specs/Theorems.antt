-- What is proved of the first meeting of two legs.
use Rattle.std.specs.Prelude.{ℕ, ◌≡◌, List, Option, Some, None, Result, Ok}
use Rattle.basics.specs.declared.Refusal.{Refusal}
use Rattle.rules.specs.Places.{pair_place, PlaceHolds}
use Rattle.repeats.specs.Steps.{exchanged_meeting}
use Rattle.repeats.specs.declared.Meeting.{Meeting}
use Rattle.meeting.specs.Meets.{CanMeet, Meets}

-- One answer.
abbrev pub MeetingOneAnswer : Type 0
MeetingOneAnswer = (t : List ℕ) (leg other : ℕ) (r r' : Result (Option Meeting) Refusal) → Meets t leg other r → Meets t leg other r' → r ≡ r'

-- The place of leg a with leg b is violated exactly where the two meet, and holds exactly where they never do.
pub record MeetingsShowOverlaps : Type 0 where
  pub met : (t : List ℕ) (a b : ℕ) (met : Meeting) → Meets t a b (Ok (Some met)) → PlaceHolds t a (pair_place b) → ⊥
  pub never : (t : List ℕ) (a b : ℕ) → Meets t a b (Ok None) → PlaceHolds t a (pair_place b)
  pub violated : (t : List ℕ) (a b : ℕ) (r : Result (Option Meeting) Refusal) → CanMeet t a b → Meets t a b r → (PlaceHolds t a (pair_place b) → ⊥) → (met : Meeting) × (r ≡ Ok (Some met))
  pub holds : (t : List ℕ) (a b : ℕ) (r : Result (Option Meeting) Refusal) → CanMeet t a b → Meets t a b r → PlaceHolds t a (pair_place b) → r ≡ Ok None

-- Told of the two legs in the other order it is the same meeting, with the repeats exchanged.
pub record MeetingsExchange : Type 0 where
  pub met : (t : List ℕ) (a b : ℕ) (met : Meeting) → Meets t a b (Ok (Some met)) → Meets t b a (Ok (Some (exchanged_meeting met)))
  pub never : (t : List ℕ) (a b : ℕ) → Meets t a b (Ok None) → Meets t b a (Ok None)
