-- Refusals in their order, a line for each cause: this refusal is due, or it is not and the next one decides.
use Rattle.std.specs.Prelude.{ℕ, ◌≡◌, ◌⊎◌, Result, Ok, Err}
use Rattle.basics.specs.Lowest.{All, Lowest}
use Rattle.basics.specs.Cause.{refused}
use Rattle.basics.specs.declared.Cause.{Cause}
use Rattle.basics.specs.declared.Refusal.{Refusal}

infixr 1 ◌then◌
infix 0 ◌called◌
-- Some refusals: for which cause at which position the first of them is due, and when none is.
pub record Refusals : Type 1 where
  pub Fault : Cause → ℕ → Type 0
  pub Clear : Type 0

-- Refused for c at a position, unless So holds; and the same at position 0.
abbrev pub unless_at : Cause → ℕ → Type 0 → Refusals
unless_at c at So = record { Fault = λ k p. (k ≡ c) × (p ≡ at) × (So → ⊥); Clear = So }

abbrev pub unless : Cause → Type 0 → Refusals
unless c So = unless_at c 0 So

-- Refused for c at the lowest of so many records that is not good.
abbrev pub lowest : Cause → (ℕ → Type 0) → ℕ → Refusals
lowest c Good count = record { Fault = λ k p. (k ≡ c) × Lowest Good 0 count p; Clear = All Good count }

-- The first refuses, or it is clear and the second decides.
abbrev pub ◌then◌ : Refusals → Refusals → Refusals
r then s = record { Fault = λ k p. r.Fault k p ⊎ (r.Clear × s.Fault k p); Clear = r.Clear × s.Clear }

-- The same refusals, where being clear of them has a name of its own.
abbrev pub ◌called◌ : Refusals → Type 0 → Refusals
r called Name = record { Fault = r.Fault; Clear = Name }

-- What an answer tells of them: clear, whatever comes with it, or the refusal that is due.
abbrev pub Told : {T : Type 0} → Refusals → Result T Refusal → Type 0
Told r (Ok v) = r.Clear
Told r (Err e) = r.Fault e.cause e.at

-- At most one refusal is due, and none where it is clear.
pub record OneFault (r : Refusals) : Type 0 where
  pub one : {k l : Cause} {p q : ℕ} → r.Fault k p → r.Fault l q → (k ≡ l) × (p ≡ q)
  pub none : {k : Cause} {p : ℕ} → r.Clear → r.Fault k p → ⊥

-- The answer is clear exactly when no refusal is due, and a cause with a position exactly when that refusal is.
pub record Exactly (r : Refusals) (a : Result (Unit {0}) Refusal) : Type 0 where
  pub clear : a ≡ Ok tt → r.Clear
  pub is_clear : r.Clear → a ≡ Ok tt
  pub cause : (k : Cause) (p : ℕ) → a ≡ refused k p → r.Fault k p
  pub refusal : (k : Cause) (p : ℕ) → r.Fault k p → a ≡ refused k p
