-- A number as a person types it: its decimal digits, the highest first.
use Rattle.std.specs.Prelude.{ℕ, ◌+◌, ◌*◌, ◌-◌, ◌≤◌, ◌<◌, ◌≡◌, List, [], ◌∷◌, length, get_or, Option, Some, None, Result, Ok, Err}
use Rattle.numbers.specs.Number.{max_word}
use Rattle.decimal.specs.declared.DecimalError.{DecimalError}
use Rattle.decimal.specs.declared.DecimalError.TheVariants as decimal

-- The bytes of the digits run from 48, the digit 0, to 57, the digit 9.
abbrev pub zero_digit : ℕ
zero_digit = 48

abbrev pub nine_digit : ℕ
nine_digit = 57

abbrev pub IsDigit : ℕ → Type 0
IsDigit b = (zero_digit ≤ b) × (b ≤ nine_digit)

-- What digits are worth after the value v: each digit makes it ten times as large, and adds itself.
unfoldable pub worth_after : ℕ → List ℕ → ℕ
worth_after v [] = v
worth_after v (b ∷ bs) = worth_after (v * 10 + (b - zero_digit)) bs

-- What digits are worth.
abbrev pub worth_of : List ℕ → ℕ
worth_of s = worth_after 0 s

-- Every byte is a digit.
pub record AllDigits (s : List ℕ) : Type 0 where
  pub digit : (i : ℕ) → i < length s → IsDigit (get_or s i 0)

-- The byte at i is the first that is no digit.
pub record FirstOther (s : List ℕ) (i : ℕ) : Type 0 where
  pub inside : i < length s
  pub before : (j : ℕ) → j < i → IsDigit (get_or s j 0)
  pub other : IsDigit (get_or s i 0) → ⊥

-- There are digits, and nothing else.
pub record Typed (s : List ℕ) : Type 0 where
  pub some : 0 < length s
  pub digits : AllDigits s

-- Reading a number: the word that its digits are worth; no byte at all; the first byte that is no digit; or digits worth more than the largest word.
abbrev pub ReadsDecimal : List ℕ → Result ℕ DecimalError → Type 0
ReadsDecimal s (Ok v) = Typed s × (worth_of s ≡ v) × (v ≤ max_word)
ReadsDecimal s (Err decimal.Empty) = length s ≡ 0
ReadsDecimal s (Err (decimal.NoDigit i)) = FirstOther s i
ReadsDecimal s (Err decimal.TooLarge) = Typed s × (max_word < worth_of s)

-- Which byte is the first that is no digit, where one is.
abbrev pub OtherTold : List ℕ → Option ℕ → Type 0
OtherTold s (Some i) = FirstOther s i
OtherTold s None = AllDigits s
