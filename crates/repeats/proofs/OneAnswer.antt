-- A first meeting is one: of two, neither is later, and one repeat is the last that has begun. Assumes nothing.
use Prim.Native.Nat.{ℕ, ◌+◌, ◌≤◌, ◌<◌}
use mathlib.Core.Path.{◌≡◌, refl}
use native.Mathlib.Nat.{lt_of_mul-lt-mul_right}
use native.Mathlib.Omega.{arith}
use Rattle.overlap.specs.Meeting.{NeverMeet}
use Rattle.overlap.specs.declared.Slot.{Slot}
use Rattle.overlap.proofs.Law.{meeting_is_symmetric, shared_instant}
use Rattle.repeats.specs.Meetings.{LastBegun, IsFirstMeeting, MeetsFirst}
use Rattle.repeats.specs.Theorems.{FirstMeetingOneAnswer, FirstMeetingsShowMeetings, FirstMeetingIsSymmetric}
use Rattle.repeats.specs.declared.Meeting.{Meeting}
use Rattle.std.specs.Prelude.{Option, Some, None}
use Rattle.repeats.proofs.Joining.{exchanged_is}

no_later : (s : Slot) (k m x : ℕ) → LastBegun s k x → LastBegun s m x → k ≤ m
no_later s k m x p q = let h : k < m + 1 = lt_of_mul-lt-mul_right s.period (omega (arith, p.begun, q.next_not)) in omega arith

pub one_repeat : (s : Slot) (k m x : ℕ) → LastBegun s k x → LastBegun s m x → k ≡ m
one_repeat s k m x p q = let h = no_later s k m x p q in let g = no_later s m k x q p in omega arith

pub one_meeting : (a b : Slot) (m n : Meeting) → IsFirstMeeting a b m → IsFirstMeeting a b n → m ≡ n
one_meeting a b m n p q =
    let up = p.earliest n.first n.second n.instant q.first_holds q.second_holds in
    let down = q.earliest m.first m.second m.instant p.first_holds p.second_holds in
    let e : m.instant ≡ n.instant = omega arith in
    let f : m.first ≡ n.first = one_repeat a m.first n.first m.instant p.first_last (rw e q.first_last) in
    let s : m.second ≡ n.second = one_repeat b m.second n.second m.instant p.second_last (rw e q.second_last) in
    λ i. record { first = f i; second = s i; instant = e i }

met_meets : (a b : Slot) (met : Meeting) → IsFirstMeeting a b met → NeverMeet a b → ⊥
met_meets a b met p never = shared_instant a b met.first met.second met.instant p.first_holds p.second_holds never

pub first_meeting_one_answer : FirstMeetingOneAnswer
first_meeting_one_answer a b (Some m) (Some n) p q = let e = one_meeting a b m n p q in cc
first_meeting_one_answer a b (Some m) None p q = absurd (met_meets a b m p q)
first_meeting_one_answer a b None (Some n) p q = absurd (met_meets a b n q p)
first_meeting_one_answer a b None None p q = refl

pub first_meetings_show_meetings : FirstMeetingsShowMeetings
first_meetings_show_meetings = record {
  met = met_meets;
  never = λ a b r told never. first_meeting_one_answer a b r None told never;
  meets = meets;
}
  where
    meets : (a b : Slot) (r : Option Meeting) → MeetsFirst a b r → (NeverMeet a b → ⊥) → (met : Meeting) × (r ≡ Some met)
    meets a b (Some met) told some = (met, refl)
    meets a b None told some = absurd (some told)

pub first_meeting_is_symmetric : FirstMeetingIsSymmetric
first_meeting_is_symmetric a b (Some met) p = exchanged_is p
first_meeting_is_symmetric a b None p = meeting_is_symmetric a b p
