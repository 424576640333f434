-- What is proved of numbers as digits.
use Rattle.std.specs.Prelude.{◌≡◌, List, [], ◌∷◌, ℕ, Result}
use Rattle.decimal.specs.Decimal.{worth_of, ReadsDecimal}
use Rattle.decimal.specs.declared.DecimalError.{DecimalError}

-- Reading a number has one answer.
abbrev pub ReadDecimalOneAnswer : Type 0
ReadDecimalOneAnswer = (s : List ℕ) (r r' : Result ℕ DecimalError) → ReadsDecimal s r → ReadsDecimal s r' → r ≡ r'

-- The bytes 49 48 50 are worth 102, 48 48 55 are worth 7, and ten digits can be worth the largest word.
abbrev pub DecimalsAtNumbers : Type 0
DecimalsAtNumbers =
    (worth_of (49 ∷ 48 ∷ 50 ∷ []) ≡ 102)
    × (worth_of (48 ∷ 48 ∷ 55 ∷ []) ≡ 7)
    × (worth_of (52 ∷ 50 ∷ 57 ∷ 52 ∷ 57 ∷ 54 ∷ 55 ∷ 50 ∷ 57 ∷ 53 ∷ []) ≡ 4294967295)
