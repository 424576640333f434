-- The first meeting is the earlier of two first beginnings: of two legs that hold the link at one instant, one began while the other held it, and no later than that. Assumes nothing.
use Prim.Native.Nat.{ℕ, ◌+◌, ◌*◌, ◌≤◌, ◌<◌}
use mathlib.Core.Path.{◌≡◌, subst}
use mathlib.Core.Logic.{⊎_elim, ◌⊎◌, inl, inr}
use native.Mathlib.Nat.{add-mul, one-mul, mul-le-mul_right}
use native.Mathlib.Omega.{arith}
use Rattle.basics.proofs.Splits.{lt_or_ge}
use Rattle.overlap.specs.Meeting.{HoldsLink, NeverMeet}
use Rattle.overlap.specs.declared.Slot.{Slot}
use Rattle.repeats.specs.Meetings.{IsFirstMeeting, MeetsFirst}
use Rattle.repeats.specs.Steps.{Brief, IsFirstBeginning, BeginsFirst, exchanged_meeting, exchanged}
use Rattle.repeats.specs.declared.Meeting.{Meeting}
use Rattle.std.specs.Prelude.{Option, Some, None}

-- A repeat's beginning.
abbrev begin : Slot → ℕ → ℕ
begin s k = s.offset + k * s.period

-- b began while a held the link, no later than y.
record BeganIn (a b : Slot) (k m y : ℕ) : Type 0 where
  pub held : HoldsLink a k (begin b m)
  pub by : begin b m ≤ y

later_began : (a b : Slot) (k m y : ℕ) → HoldsLink a k y → HoldsLink b m y → BeganIn a b k m y ⊎ BeganIn b a m k y
later_began a b k m y p q =
    ⊎_elim
    (λ (h : begin a k < begin b m). inl (record { held = record { begun = omega arith; not_ended = omega (arith, q.begun, p.not_ended) }; by = q.begun }))
    (λ (h : begin b m ≤ begin a k). inr (record { held = record { begun = omega arith; not_ended = omega (arith, p.begun, q.not_ended) }; by = p.begun }))
    (lt_or_ge (begin a k) (begin b m))

pub never_meets : {a b : Slot} → BeginsFirst a b None → BeginsFirst b a None → NeverMeet a b
unfolding NeverMeet
never_meets {a} {b} none none' k m y p q = ⊎_elim (λ (l : BeganIn a b k m y). none k m l.held) (λ (l : BeganIn b a m k y). none' m k l.held) (later_began a b k m y p q)

-- A first beginning of b is the first meeting where no a begins earlier while b holds the link.
first_is : {a b : Slot} {x : Meeting} → Brief b → IsFirstBeginning a b x → ((k m : ℕ) → HoldsLink b m (begin a k) → x.instant ≤ begin a k) → IsFirstMeeting a b x
first_is {a} {b} {x} brief f others =
    let e = f.begins in
    let n = add-mul x.second 1 b.period in
    let o = one-mul b.period in
    record {
      first_holds = f.holds;
      second_holds = record { begun = omega arith; not_ended = omega (arith, brief.hold_from) };
      first_last = f.last;
      second_last = record { begun = omega arith; next_not = omega (arith, brief.period_from) };
      earliest = λ k m y p q.
          ⊎_elim
          (λ (l : BeganIn a b k m y). omega (arith, l.by, mul-le-mul_right b.period (f.earliest k m l.held)))
          (λ (l : BeganIn b a m k y). omega (arith, l.by, others k m l.held))
          (later_began a b k m y p q);
    }

-- The first meeting of b and a is that of a and b.
pub exchanged_is : {a b : Slot} {x : Meeting} → IsFirstMeeting a b x → IsFirstMeeting b a (exchanged_meeting x)
exchanged_is f = record {
  first_holds = f.second_holds;
  second_holds = f.first_holds;
  first_last = f.second_last;
  second_last = f.first_last;
  earliest = λ k m y p q. f.earliest m k y q p;
}

pub alone : {a b : Slot} {x : Meeting} → Brief b → IsFirstBeginning a b x → BeginsFirst b a None → IsFirstMeeting a b x
alone brief f none = first_is brief f (λ k m h. absurd (none m k h))

-- Where both begin, the earlier is the first meeting.
pub not_later : {a b : Slot} {x y : Meeting} → Brief b → IsFirstBeginning a b x → IsFirstBeginning b a y → x.instant ≤ y.instant → IsFirstMeeting a b x
not_later {a} {b} {x} {y} brief f g h = first_is brief f (λ k m l. omega (arith, g.begins, mul-le-mul_right a.period (g.earliest m k l)))

-- What an answer of b and a tells, exchanged.
abbrev pub AlsoBegins : Slot → Slot → Option Meeting → Type 0
AlsoBegins a b (Some y) = IsFirstBeginning b a (exchanged_meeting y)
AlsoBegins a b None = BeginsFirst b a None

pub also_begins : (a b : Slot) (u : Option Meeting) → BeginsFirst b a u → AlsoBegins a b (exchanged u)
also_begins a b (Some v) told = told
also_begins a b None told = told

-- What is known where both answers are there.
pub record Both : Type 0 where
  pub a : Slot
  pub b : Slot
  pub later : Option Meeting
  pub other : Option Meeting
  pub brief : Brief a
  pub brief' : Brief b
  pub told : BeginsFirst a b later
  pub also : AlsoBegins a b other

-- The laws as the function goes by them.
module _ (p : Both) where
  either : (w : Option Meeting) → BeginsFirst p.a p.b None → AlsoBegins p.a p.b w → MeetsFirst p.a p.b w
  either (Some y) none begins = exchanged_is (alone p.brief begins none)
  either None none none' = never_meets none none'

  pub only_other : p.later ≡ None → MeetsFirst p.a p.b p.other
  only_other e = either p.other (subst (BeginsFirst p.a p.b) e p.told) p.also

  module _ {x : Meeting} (is : p.later ≡ Some x) where
    begins : IsFirstBeginning p.a p.b x
    begins = subst (BeginsFirst p.a p.b) is p.told

    pub only_later : p.other ≡ None → IsFirstMeeting p.a p.b x
    only_later e = alone p.brief' begins (subst (AlsoBegins p.a p.b) e p.also)

    module _ {y : Meeting} (is' : p.other ≡ Some y) where
      begins' : IsFirstBeginning p.b p.a (exchanged_meeting y)
      begins' = subst (AlsoBegins p.a p.b) is' p.also

      pub other_first : y.instant < x.instant → IsFirstMeeting p.a p.b y
      other_first h = exchanged_is (not_later p.brief begins' begins (omega arith))

      pub later_first : x.instant ≤ y.instant → IsFirstMeeting p.a p.b x
      later_first h = not_later p.brief' begins begins' h
