-- First meetings at numbers: an earlier one would have few repeats, and none of them fits. Assumes nothing.
use Prim.Native.Nat.{ℕ, zero, suc, ◌+◌, ◌*◌, ◌≤◌, ◌<◌}
use mathlib.Core.Path.{◌≡◌, subst}
use mathlib.Core.Logic.{⊎_elim}
use native.Mathlib.Omega.{arith}
use Rattle.basics.proofs.Splits.{lt_or_ge}
use Rattle.overlap.specs.Meeting.{HoldsLink}
use Rattle.overlap.specs.declared.Slot.{Slot}
use Rattle.overlap.specs.Theorems.{in100000}
use Rattle.overlap.proofs.AtNumbers.{clear_at}
use Rattle.repeats.specs.Meetings.{IsFirstMeeting}
use Rattle.repeats.specs.AtNumbers.{slot_for, FirstMeetingsAtNumbers}
use Rattle.repeats.specs.declared.Meeting.{Meeting}

-- Both hold the link then, in the repeats that have begun last; that it is the earliest is left.
record There (a b : Slot) (met : Meeting) : Type 0 where
  pub first_begun : a.offset + met.first * a.period ≤ met.instant
  pub first_holds : met.instant < a.offset + met.first * a.period + a.hold
  pub first_last : met.instant < a.offset + (met.first + 1) * a.period
  pub second_begun : b.offset + met.second * b.period ≤ met.instant
  pub second_holds : met.instant < b.offset + met.second * b.period + b.hold
  pub second_last : met.instant < b.offset + (met.second + 1) * b.period

first_is : (a b : Slot) (met : Meeting) → There a b met → ((k m y : ℕ) → HoldsLink a k y → HoldsLink b m y → met.instant ≤ y) → IsFirstMeeting a b met
first_is a b met t earliest = record {
  first_holds = record { begun = t.first_begun; not_ended = t.first_holds };
  second_holds = record { begun = t.second_begun; not_ended = t.second_holds };
  first_last = record { begun = t.first_begun; next_not = t.first_last };
  second_last = record { begun = t.second_begun; next_not = t.second_last };
  earliest = earliest;
}

-- The repeats of the first below n one by one, and the rest.
abbrev Each : (ℕ → Type 0) → ℕ → Type 0
Each P zero = Unit {0}
Each P (suc n) = P n × Each P n

each : (n : ℕ) (P : ℕ → Type 0) → Each P n → (k : ℕ) → k < n → P k
each zero P all k h = absurd (omega arith)
each (suc n) P all k h = ⊎_elim (λ (l : k < n). each n P all.1 k l) (λ (l : n ≤ k). let e : n ≡ k = omega arith in subst P e all.0) (lt_or_ge k n)

earliest_by : (n : ℕ) (a b : Slot) (x : ℕ) → Each (λ k. (m y : ℕ) → HoldsLink a k y → HoldsLink b m y → x ≤ y) n → ((k y : ℕ) → n ≤ k → HoldsLink a k y → x ≤ y)
    → (k m y : ℕ) → HoldsLink a k y → HoldsLink b m y → x ≤ y
earliest_by n a b x all rest k m y p q = ⊎_elim (λ (h : k < n). each n (λ j. (i z : ℕ) → HoldsLink a j z → HoldsLink b i z → x ≤ z) all k h m y p q) (λ (h : n ≤ k). rest k y h p) (lt_or_ge k n)

-- Periods that differ by 1 ns: after m repeats of the one the other has fallen behind by m ns.
one_apart_earliest : (k m y : ℕ) → HoldsLink (in100000 0 672) k y → HoldsLink (slot_for 50000 100001 672) m y → 4933000000 ≤ y
one_apart_earliest k m y p q =
    ⊎_elim
    (λ (h : m < k). omega arith)
    (λ (h : k ≤ m). absurd (omega arith))
    (lt_or_ge m k)

longest_earliest : (k m y : ℕ) → HoldsLink (slot_for 0 1000000000 1) k y → HoldsLink (slot_for 999999999 999999999 1) m y → 999999999000000000 ≤ y
longest_earliest k m y p q =
    ⊎_elim
    (λ (h : m < k). absurd (omega arith))
    (λ (h : k ≤ m). omega arith)
    (lt_or_ge m k)

pub first_meetings_at_numbers : FirstMeetingsAtNumbers
first_meetings_at_numbers = record {
  at_0 = first_is _ _ _ (search arith) (λ k m y p q. omega arith);
  at_50000 = first_is _ _ _ (search arith) (earliest_by 2 _ _ _ (λ m y p q. omega arith, (λ m y p q. omega arith, tt)) (λ k y h p. omega arith));
  at_671 = first_is _ _ _ (search arith) (λ k m y p q. omega arith);
  at_672 = clear_at _ _ _ (omega arith, omega arith) (omega arith) (omega arith, omega arith);
  the_other_first = first_is _ _ _ (search arith) (earliest_by 1 _ _ _ (λ m y p q. omega arith, tt) (λ k y h p. omega arith));
  late = first_is _ _ _ (search arith) (earliest_by 2 _ _ _ (λ m y p q. omega arith, (λ m y p q. omega arith, tt)) (λ k y h p. omega arith));
  one_apart = first_is _ _ _ (search arith) (one_apart_earliest);
  longest = first_is _ _ _ (search arith) (longest_earliest);
  all_differ = first_is _ _ _ (search arith) (earliest_by 4 _ _ _ (λ m y p q. omega arith, (λ m y p q. omega arith, (λ m y p q. omega arith, (λ m y p q. omega arith, tt)))) (λ k y h p. omega arith));
  offsets_exchanged = first_is _ _ _ (search arith) (earliest_by 6 _ _ _ (λ m y p q. omega arith, (λ m y p q. omega arith, (λ m y p q. omega arith, (λ m y p q. omega arith, (λ m y p q. omega arith, (λ m y p q. omega arith, tt)))))) (λ k y h p. omega arith));
  holds_exchanged = first_is _ _ _ (search arith) (λ k m y p q. omega arith);
  periods_exchanged = first_is _ _ _ (search arith) (earliest_by 2 _ _ _ (λ m y p q. omega arith, (λ m y p q. omega arith, tt)) (λ k y h p. omega arith));
  longer_than_its_period = first_is _ _ _ (search arith) (λ k m y p q. omega arith);
}
