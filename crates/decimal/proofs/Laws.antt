-- What digits are worth, one more digit at a time. Assumes nothing.
use Prim.Native.Nat.{ℕ, zero, suc, ◌+◌, ◌*◌, ◌-◌, ◌≤◌, ◌<◌}
use mathlib.Core.Path.{◌≡◌, refl, ◌∙◌, sym}
use mathlib.Core.List.{List, [], ◌∷◌}
use lib.ListN.{length, drop, get_or}
use lib.Seq.{drop-cons}
use native.Mathlib.Numerals.{add-one}
use native.Mathlib.Omega.{arith}
use Rattle.numbers.specs.Number.{max_word}
use Rattle.decimal.specs.Decimal.{zero_digit, IsDigit, worth_after, worth_of, Typed}

-- A digit more is worth no less.
pub worth_grows : (s : List ℕ) (v : ℕ) → v ≤ worth_after v s
unfolding worth_after
worth_grows [] v = omega arith
worth_grows (b ∷ s) v = let g = worth_grows s (v * 10 + (b - zero_digit)) in omega arith

-- The digit at i, and those after it.
pub worth_step : (s : List ℕ) (i v : ℕ) → i < length s
    → worth_after v (drop i s) ≡ worth_after (v * 10 + (get_or s i 0 - zero_digit)) (drop (i + 1) s)
unfolding worth_after
worth_step s i v h = rw (add-one, drop-cons s i 0)

-- No digit is left.
pub worth_end : (s : List ℕ) (i v : ℕ) → length s ≤ i → worth_after v (drop i s) ≡ v
unfolding worth_after
worth_end [] zero v h = refl
worth_end [] (suc i) v h = refl
worth_end (b ∷ s) zero v h = absurd (omega arith)
worth_end (b ∷ s) (suc i) v h = worth_end s i v (omega arith)

-- Each turn: what was passed is worth v, and with the digits after it that is what all of them are worth.
pub record Turn (s : List ℕ) (v i : ℕ) : Type 0 where
  pub typed : Typed s
  pub passed : i ≤ length s
  pub word : v ≤ max_word
  pub whole : worth_after v (drop i s) ≡ worth_of s

pub turn_starts : {s : List ℕ} → Typed s → Turn s 0 0
turn_starts t = record { typed = t; passed = omega arith; word = omega arith; whole = refl }

module _ {s : List ℕ} {v i : ℕ} (f : Turn s v i) where
  pub turn_ends : length s ≤ i → worth_of s ≡ v
  turn_ends h = sym f.whole ∙ worth_end s i v h

  -- The next digit.
  module _ {d : ℕ} (more : i < length s) (is : d ≡ get_or s i 0) where
    pub turn_digit : IsDigit d
    turn_digit = rw is (f.typed.digits.digit i more)

    turn_worth : worth_after (v * 10 + (d - zero_digit)) (drop (i + 1) s) ≡ worth_of s
    turn_worth = rw is (sym (worth_step s i v more) ∙ f.whole)

    pub turn_large : max_word < v * 10 + (d - zero_digit) → max_word < worth_of s
    turn_large h = omega (arith, worth_grows (drop (i + 1) s) (v * 10 + (d - zero_digit)), turn_worth)

    pub turn_more : v * 10 + (d - zero_digit) ≤ max_word → Turn s (v * 10 + (d - zero_digit)) (i + 1)
    turn_more h = record { typed = f.typed; passed = omega arith; word = h; whole = turn_worth }
