-- Numbers of 64 bits, one more digit at a time, and what was told of their digits. Assumes nothing.
use Rattle.std.proofs.Common.{◌≡◌, ℕ, ◌+◌, ◌-◌, ◌*◌, ◌<◌, ◌≤◌, List, length, get_or, drop, sym, refl, ◌∙◌, arith}
use Rattle.decimal.specs.Decimal.{zero_digit, IsDigit, worth_after, worth_of, Typed}
use Rattle.decimal.proofs.Laws.{worth_grows, worth_step, worth_end}
use Rattle.wishes.specs.Number.{max_size}

-- The value after which one more digit may be too many.
abbrev pub enough : ℕ
enough = 922337203685477580

-- Each turn: what was passed is worth v, and with the digits after it that is what all of them are worth.
pub record Passing (s : List ℕ) (v i : ℕ) : Type 0 where
  pub typed : Typed s
  pub passed : i ≤ length s
  pub small : v ≤ enough * 10 + 9
  pub whole : worth_after v (drop i s) ≡ worth_of s

pub passing_starts : {s : List ℕ} → Typed s → Passing s 0 0
passing_starts t = record { typed = t; passed = omega arith; small = omega arith; whole = refl }

module _ {s : List ℕ} {v i : ℕ} (f : Passing s v i) where
  pub passing_ends : length s ≤ i → worth_of s ≡ v
  passing_ends h = sym f.whole ∙ worth_end s i v h

  pub passing_digit : i < length s → IsDigit (get_or s i 0)
  passing_digit h = f.typed.digits.digit i h

  pub passing_far : i < length s → enough < v → max_size < worth_of s
  passing_far more large =
      let step = worth_step s i v more in
      let grown = worth_grows (drop (i + 1) s) (v * 10 + (get_or s i 0 - zero_digit)) in
      omega (arith, step, grown, f.whole)

  pub passing_more : {d : ℕ} → i < length s → v ≤ enough → d ≡ get_or s i 0 - zero_digit → Passing s (v * 10 + d) (i + 1)
  passing_more {d} more room is = record {
    typed = f.typed;
    passed = omega arith;
    small = omega (arith, passing_digit more);
    whole = rw is (sym (worth_step s i v more) ∙ f.whole);
  }
