-- A condition on a first offset x, and a list of such conditions.
use Rattle.std.specs.Prelude.{ℕ, ◌+◌, ◌%◌, ◌≤◌, ◌<◌, ◌≡◌, List, length, get_or}
use Rattle.numbers.specs.Number.{max_word}
use Rattle.overlap.specs.Meeting.{NeverMeet}
use Rattle.overlap.specs.Divisor.{Apart}
use Rattle.overlap.specs.declared.Slot.{Slot}
use Rattle.offsets.specs.declared.Condition.{Condition}
use Rattle.offsets.specs.declared.StoredCondition.{StoredCondition}

-- (x + shift) mod modulus is at least before, and at least after away from the modulus.
pub record Allows (q : Condition) (x : ℕ) : Type 0 where
  pub apart : Apart q.before q.after q.modulus ((x + q.shift) % q.modulus)

-- A condition whose numbers are words.
pub record Sound (q : Condition) : Type 0 where
  pub some : 1 ≤ q.modulus
  pub modulus : q.modulus ≤ max_word
  pub shift : q.shift < q.modulus
  pub before : q.before ≤ max_word
  pub after : q.after ≤ max_word

-- A condition that says just P.
pub record Says (P : ℕ → Type 0) (q : Condition) : Type 0 where
  pub sound : Sound q
  pub to : (x : ℕ) → Allows q x → P x
  pub from : (x : ℕ) → P x → Allows q x

-- A condition that allows everything.
pub record AllowsAll (q : Condition) : Type 0 where
  pub sound : Sound q
  pub all : (x : ℕ) → Allows q x

-- A leg that starts so long after the first offset x has its offset there in its period.
abbrev pub slot_from : ℕ → ℕ → ℕ → ℕ → Slot
slot_from after period hold x = record { offset = (x + after) % period; period = period; hold = hold }

-- It ends within its period.
abbrev pub EndsWithin : ℕ → ℕ → ℕ → ℕ → Type 0
EndsWithin after period hold x = (x + after) % period + hold ≤ period

-- It never meets the other leg.
abbrev pub ClearOf : ℕ → ℕ → ℕ → Slot → ℕ → Type 0
ClearOf after period hold other x = NeverMeet (slot_from after period hold x) other

-- The most that a leg may start after the first offset, for the code to compute with it: 2 to the 40th.
abbrev pub max_after : ℕ
max_after = 1099511627776

-- What the code asks of such a leg.
pub record Starts (after period hold : ℕ) : Type 0 where
  pub after_to : after ≤ max_after
  pub period_from : 1 ≤ period
  pub period_to : period ≤ max_word
  pub hold_from : 1 ≤ hold
  pub hold_to : hold ≤ max_word

-- A condition that a list keeps; no list has one behind its end.
abbrev pub widened : StoredCondition → Condition
widened q = record { modulus = q.modulus; shift = q.shift; before = q.before; after = q.after }

abbrev pub no_condition : StoredCondition
no_condition = record { modulus = 0; shift = 0; before = 0; after = 0 }

-- Condition i of a list.
abbrev pub condition_at : List StoredCondition → ℕ → Condition
condition_at s i = widened (get_or s i no_condition)

-- Each condition of the list is sound.
pub record AllSound (s : List StoredCondition) : Type 0 where
  pub each : (i : ℕ) → i < length s → Sound (condition_at s i)

-- All conditions of the list allow x.
pub record Allow (s : List StoredCondition) (x : ℕ) : Type 0 where
  pub each : (i : ℕ) → i < length s → Allows (condition_at s i) x

-- The list has n conditions, and condition i says P i.
pub record Holding (s : List StoredCondition) (n : ℕ) (P : ℕ → ℕ → Type 0) : Type 0 where
  pub room : n ≤ length s
  pub each : (i : ℕ) → i < n → Says (P i) (condition_at s i)

-- s' is s with q as condition i.
pub record Keeps (s : List StoredCondition) (i : ℕ) (q : Condition) (s' : List StoredCondition) : Type 0 where
  pub size : length s' ≡ length s
  pub room : i < length s
  pub there : condition_at s' i ≡ q
  pub others : (j : ℕ) → (j ≡ i → ⊥) → condition_at s' j ≡ condition_at s j
