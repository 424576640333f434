-- Reading a number has one answer: the first byte that is no digit is one, and digits are worth one number. Assumes nothing.
use Prim.Native.Nat.{ℕ, ◌≤◌, ◌<◌}
use mathlib.Core.Path.{◌≡◌, refl, ◌∙◌, sym}
use mathlib.Core.List.{List}
use mathlib.Core.Logic.{◌⊎◌, inl, inr}
use native.Mathlib.Omega.{arith}
use Rattle.std.specs.Prelude.{Ok, Err}
use Rattle.basics.proofs.Splits.{lt_or_ge}
use Rattle.decimal.specs.Decimal.{worth_after, AllDigits, FirstOther}
use Rattle.decimal.specs.Theorems.{ReadDecimalOneAnswer, DecimalsAtNumbers}
use Rattle.decimal.specs.declared.DecimalError.TheVariants as decimal

-- Where all bytes are digits no other is the first.
no_other : {s : List ℕ} {i : ℕ} → AllDigits s → FirstOther s i → ⊥
no_other {s} {i} d o = o.other (d.digit i o.inside)

-- The first other byte is one.
first_once : {s : List ℕ} (i j : ℕ) → FirstOther s i → FirstOther s j → i ≡ j
first_once {s} i j p q = go (lt_or_ge i j) (lt_or_ge j i)
  where
    go : (i < j) ⊎ (j ≤ i) → (j < i) ⊎ (i ≤ j) → i ≡ j
    go (inl h) _ = absurd (p.other (q.before i h))
    go (inr h) (inl k) = absurd (q.other (p.before j k))
    go (inr h) (inr k) = omega arith

pub read_decimal_one_answer : ReadDecimalOneAnswer
read_decimal_one_answer s (Ok v) (Ok w) (t, e, h) (t', e', h') = let i : v ≡ w = sym e ∙ e' in cc
read_decimal_one_answer s (Ok v) (Err decimal.Empty) (t, e, h) z = let p = t.some in absurd (omega arith)
read_decimal_one_answer s (Ok v) (Err (decimal.NoDigit i)) (t, e, h) o = absurd (no_other t.digits o)
read_decimal_one_answer s (Ok v) (Err decimal.TooLarge) (t, e, h) (t', l) = absurd (omega arith)
read_decimal_one_answer s (Err decimal.Empty) (Ok w) z (t, e, h) = let p = t.some in absurd (omega arith)
read_decimal_one_answer s (Err decimal.Empty) (Err decimal.Empty) z z' = refl
read_decimal_one_answer s (Err decimal.Empty) (Err (decimal.NoDigit i)) z o = let p = o.inside in absurd (omega arith)
read_decimal_one_answer s (Err decimal.Empty) (Err decimal.TooLarge) z (t, l) = let p = t.some in absurd (omega arith)
read_decimal_one_answer s (Err (decimal.NoDigit i)) (Ok w) o (t, e, h) = absurd (no_other t.digits o)
read_decimal_one_answer s (Err (decimal.NoDigit i)) (Err decimal.Empty) o z = let p = o.inside in absurd (omega arith)
read_decimal_one_answer s (Err (decimal.NoDigit i)) (Err (decimal.NoDigit j)) o o' = let e = first_once i j o o' in cc
read_decimal_one_answer s (Err (decimal.NoDigit i)) (Err decimal.TooLarge) o (t, l) = absurd (no_other t.digits o)
read_decimal_one_answer s (Err decimal.TooLarge) (Ok w) (t, l) (t', e, h) = absurd (omega arith)
read_decimal_one_answer s (Err decimal.TooLarge) (Err decimal.Empty) (t, l) z = let p = t.some in absurd (omega arith)
read_decimal_one_answer s (Err decimal.TooLarge) (Err (decimal.NoDigit i)) (t, l) o = absurd (no_other t.digits o)
read_decimal_one_answer s (Err decimal.TooLarge) (Err decimal.TooLarge) (t, l) (t', l') = refl

pub decimals_at_numbers : DecimalsAtNumbers
unfolding worth_after
decimals_at_numbers = (refl, refl, refl)
