-- What a time with a unit is worth.
use Rattle.std.specs.Prelude.{ℕ, ◌+◌, ◌*◌, ◌≤◌, ◌<◌, ◌^◌, ◌≡◌, List, ◌⊎◌, length, get_or, take, drop, Result, Ok, Err, IfOk}
use Rattle.numbers.specs.Number.{max_word}
use Rattle.decimal.specs.Decimal.{Typed, worth_of}
use Rattle.units.specs.declared.TimeError.{TimeError}
use Rattle.units.specs.declared.TimeError.TheVariants as error

-- a whole units and b parts of a unit, of which so many make one as scale says, are v ns, where a unit is so many ns.
abbrev pub Worth : ℕ → ℕ → ℕ → ℕ → ℕ → Type 0
Worth a b scale unit v = v * scale ≡ (a * scale + b) * unit

-- The byte of the point.
abbrev pub point_byte : ℕ
point_byte = 46

-- Digits alone are v ns.
pub record Plain (s : List ℕ) (unit v : ℕ) : Type 0 where
  pub typed : Typed s
  pub worth : Worth (worth_of s) 0 1 unit v

-- Digits, a point at p and digits are v ns: those after the point are tenths, hundredths and so on of a unit.
pub record Pointed (s : List ℕ) (unit v p : ℕ) : Type 0 where
  pub inside : p < length s
  pub point : get_or s p 0 ≡ point_byte
  pub before : Typed (take p s)
  pub after : Typed (drop (p + 1) s)
  pub worth : Worth (worth_of (take p s)) (worth_of (drop (p + 1) s)) (10 ^ length (drop (p + 1) s)) unit v

-- A number, in a unit of so many ns, is v ns.
abbrev pub InUnit : List ℕ → ℕ → ℕ → Type 0
InUnit s unit v = Plain s unit v ⊎ ((p : ℕ) × Pointed s unit v p)

-- What reading a number in a unit tells: an answer in ns is what the number means, and fits into a word.
abbrev pub TimeTold : List ℕ → ℕ → Result ℕ TimeError → Type 0
TimeTold s unit r = IfOk r (λ v. InUnit s unit v × (v ≤ max_word))

-- The word that units and parts are worth; that they are no whole number of ns; or that they are more than the largest word.
abbrev pub ScaledTold : ℕ → ℕ → ℕ → ℕ → Result ℕ TimeError → Type 0
ScaledTold a b scale unit (Ok v) = Worth a b scale unit v × (v ≤ max_word)
ScaledTold a b scale unit (Err error.NotWhole) = (v : ℕ) → Worth a b scale unit v → ⊥
ScaledTold a b scale unit (Err error.TooLarge) = (v : ℕ) → Worth a b scale unit v → max_word < v
ScaledTold a b scale unit (Err error.NoUnit) = ⊥
ScaledTold a b scale unit (Err error.NoNumber) = ⊥
ScaledTold a b scale unit (Err error.TooFine) = ⊥

-- The number that digits are.
abbrev pub NumberTold : List ℕ → Result ℕ TimeError → Type 0
NumberTold s r = IfOk r (λ v. Typed s × (worth_of s ≡ v))

-- The same of digits alone, of the digits after a point, and of those on both sides of it.
abbrev pub PlainTold : List ℕ → ℕ → Result ℕ TimeError → Type 0
PlainTold s unit r = IfOk r (λ v. Plain s unit v × (v ≤ max_word))

abbrev pub AfterTold : ℕ → List ℕ → ℕ → Result ℕ TimeError → Type 0
AfterTold a s unit r = IfOk r (λ v. Typed s × Worth a (worth_of s) (10 ^ length s) unit v × (v ≤ max_word))

abbrev pub PointedTold : List ℕ → List ℕ → ℕ → Result ℕ TimeError → Type 0
PointedTold a b unit r = IfOk r (λ v. Typed a × Typed b × Worth (worth_of a) (worth_of b) (10 ^ length b) unit v × (v ≤ max_word))
