-- A number as a person types it: a sign or none, and digits.
use Rattle.std.specs.Prelude.{◌≡◌, ℕ, ◌<◌, Bool, true, false, List, drop, ◌≢◌, get_or, ℤ, pos, neg_ℤ, Option, Some, None, Result, Ok, Err}
use Rattle.decimal.specs.Decimal.{Typed, worth_of}
use Rattle.wishes.specs.declared.number.NumberError.{NumberError}
use Rattle.wishes.specs.declared.number.NumberError.TheVariants as error

-- The bytes of the signs.
abbrev pub minus_sign : ℕ
minus_sign = 45

abbrev pub plus_sign : ℕ
plus_sign = 43

-- The size of the smallest number of 64 bits with a sign.
abbrev pub max_size : ℕ
max_size = 9223372036854775808

-- What digits are worth, or that it is more than any number of 64 bits with a sign.
abbrev pub WorthTold : List ℕ → Option ℕ → Type 0
WorthTold s (Some v) = worth_of s ≡ v
WorthTold s None = max_size < worth_of s

-- Digits alone: their worth; that it is too much; or that there are not digits alone.
abbrev pub ReadsAbove : List ℕ → Result ℕ NumberError → Type 0
ReadsAbove s (Ok v) = Typed s × (worth_of s ≡ v)
ReadsAbove s (Err error.Above) = Typed s × (max_size < worth_of s)
ReadsAbove s (Err error.Below) = ⊥
ReadsAbove s (Err error.Wrong) = Typed s → ⊥

-- A number: the worth of its digits, below zero or not; that it is too far below or above zero; or that there are not digits alone.
abbrev pub ReadsDigits : List ℕ → Bool → Result ℤ NumberError → Type 0
ReadsDigits s true (Ok z) = Typed s × (z ≡ neg_ℤ (pos (worth_of s)))
ReadsDigits s false (Ok z) = Typed s × (z ≡ pos (worth_of s))
ReadsDigits s b (Err error.Below) = (b ≡ true) × Typed s × (max_size < worth_of s)
ReadsDigits s b (Err error.Above) = (b ≡ false) × Typed s × (max_size < worth_of s)
ReadsDigits s b (Err error.Wrong) = Typed s → ⊥

-- Reading a number: what comes after its sign, if it has one, is read as digits.
pub record ReadsSigned (s : List ℕ) (r : Result ℤ NumberError) : Type 0 where
  pub minus : get_or s 0 0 ≡ minus_sign → ReadsDigits (drop 1 s) true r
  pub plus : get_or s 0 0 ≡ plus_sign → ReadsDigits (drop 1 s) false r
  pub none : (get_or s 0 0 ≢ minus_sign) → (get_or s 0 0 ≢ plus_sign) → ReadsDigits s false r
