-- Two legs have one answer, since their slots have; and it is told of their place, which holds exactly where they never meet. Assumes nothing.
use Rattle.std.specs.Prelude.{Option, Some, None, Result, Ok, Err}
use Prim.Native.Nat.{ℕ}
use mathlib.Core.Path.{◌≡◌, refl, sym, ap}
use mathlib.Core.List.{List}
use Rattle.basics.specs.Refusals.{OneFault}
use Rattle.basics.specs.declared.Cause.TheVariants as cause
use Rattle.basics.specs.declared.Refusal.{Refusal}
use Rattle.basics.proofs.Refusals.{unless_one, then_one, called_one, same_refusal}
use Rattle.shape.proofs.OneShape.{shape_one}
use Rattle.rules.specs.Rules.{Overlap}
use Rattle.rules.specs.Places.{pair_place, PlaceHolds}
use Rattle.rules.specs.Times.{slot_of}
use Rattle.rules.specs.declared.Asked.TheVariants as asked
use Rattle.rules.proofs.Covering.{overlap_symmetric}
use Rattle.rules.proofs.Placing.{place_holds, asked_holds}
use Rattle.rules.proofs.Said.{overlap_says}
use Rattle.repeats.specs.declared.Meeting.{Meeting}
use Rattle.repeats.proofs.Joining.{exchanged_is}
use Rattle.repeats.proofs.OneAnswer.{one_meeting, first_meetings_show_meetings}
use Rattle.meeting.specs.Meets.{CanMeet, FirstMeetingOf, meeting_refusals, Meets}
use Rattle.meeting.specs.Theorems.{MeetingOneAnswer, MeetingsShowOverlaps, MeetingsExchange}

pub meeting_one : (t : List ℕ) (leg other : ℕ) → OneFault (meeting_refusals t leg other)
meeting_one t leg other = called_one (then_one (shape_one t) (then_one (unless_one cause.NoLeg _) (unless_one cause.NoLeg _))) (λ c. (c.shape, (c.leg_there, c.other_there)))

-- Legs that meet break the rule of overlap.
meets_overlap : (t : List ℕ) (a b : ℕ) (met : Meeting) → FirstMeetingOf t a b met → Overlap t a b → ⊥
meets_overlap t a b met f never = first_meetings_show_meetings.met (slot_of t a) (slot_of t b) met f.meeting ((overlap_says t a b).0 never f.one_link)

pub meeting_one_answer : MeetingOneAnswer
meeting_one_answer t a b (Ok (Some m)) (Ok (Some n)) v w = ap (λ (x : Meeting). Ok (Some x)) (one_meeting (slot_of t a) (slot_of t b) m n v.1.meeting w.1.meeting)
meeting_one_answer t a b (Ok (Some m)) (Ok None) v w = absurd (meets_overlap t a b m v.1 w.1)
meeting_one_answer t a b (Ok (Some m)) (Err e) v f = absurd ((meeting_one t a b).none v.0 f)
meeting_one_answer t a b (Ok None) (Ok (Some m)) v w = absurd (meets_overlap t a b m w.1 v.1)
meeting_one_answer t a b (Ok None) (Ok None) v w = refl
meeting_one_answer t a b (Ok None) (Err e) v f = absurd ((meeting_one t a b).none v.0 f)
meeting_one_answer t a b (Err e) (Ok (Some m)) f v = absurd ((meeting_one t a b).none v.0 f)
meeting_one_answer t a b (Err e) (Ok None) f v = absurd ((meeting_one t a b).none v.0 f)
meeting_one_answer t a b (Err d) (Err e) f g = let i = (meeting_one t a b).one f g in same_refusal i.0 i.1

violated : (t : List ℕ) (a b : ℕ) (r : Result (Option Meeting) Refusal) → CanMeet t a b → Meets t a b r → (PlaceHolds t a (pair_place b) → ⊥) → (met : Meeting) × (r ≡ Ok (Some met))
violated t a b (Ok (Some m)) can v broken = (m, refl)
violated t a b (Ok None) can v broken = absurd (broken (place_holds t a (asked.Overlap b) v.1))
violated t a b (Err e) can f broken = absurd ((meeting_one t a b).none can f)

pub meetings_show_overlaps : MeetingsShowOverlaps
meetings_show_overlaps = record {
  met = λ t a b m v holds. meets_overlap t a b m v.1 (asked_holds t a (asked.Overlap b) holds);
  never = λ t a b v. place_holds t a (asked.Overlap b) v.1;
  violated = violated;
  holds = λ t a b r can v holds. meeting_one_answer t a b r (Ok None) v (can, asked_holds t a (asked.Overlap b) holds);
}

turned : {t : List ℕ} {a b : ℕ} → CanMeet t a b → CanMeet t b a
turned c = record { shape = c.shape; leg_there = c.other_there; other_there = c.leg_there }

pub meetings_exchange : MeetingsExchange
meetings_exchange = record {
  met = λ t a b m v. (turned v.0, record { one_link = sym v.1.one_link; meeting = exchanged_is v.1.meeting });
  never = λ t a b v. (turned v.0, overlap_symmetric t a b v.1);
}
