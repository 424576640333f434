-- The first repeat of a slot that begins at an instant or later, and where it begins in the period of another slot. Assumes nothing.
use Prim.Native.Nat.{ℕ, zero, suc, ◌+◌, ◌*◌, ◌-◌, ◌/◌, ◌%◌, ◌≤◌, ◌<◌}
use mathlib.Core.Logic.{⊎_elim}
use native.Mathlib.Nat.{div-add-mod, mod-lt, mul_comm, suc-mul, div-le_self}
use native.Mathlib.Omega.{arith}
use Rattle.basics.proofs.Splits.{lt_or_ge}
use Rattle.numbers.specs.Number.{max_word}
use Rattle.overlap.specs.declared.Slot.{Slot}
use Rattle.repeats.specs.Steps.{Brief, FirstFrom, Enters}
use Rattle.repeats.proofs.Circle.{nearest_is, nearest_least}

pub first_from_is : {s : Slot} {x : ℕ} → Brief s → x ≤ max_word → s.offset < x → FirstFrom s x ((x - s.offset - 1) / s.period + 1)
first_from_is {s} {x} brief word late =
    let d = x - s.offset in
    let n = (d - 1) / s.period + 1 in
    let near = nearest_is s.period d brief.period_from (omega arith) in
    record {
      from = omega (arith, near.reached, mul_comm n s.period);
      least = λ m h. nearest_least m near (omega (arith, mul_comm m s.period));
      word = omega (arith, div-le_self (d - 1) s.period);
    }

-- The first repeat that begins at x or later begins less than a period after x, or is the very first.
soon : (s : Slot) (x k : ℕ) → FirstFrom s x k → Brief s → s.offset + k * s.period - x ≤ max_word
soon s x zero f brief = omega (arith, brief.offset_to)
soon s x (suc k) f brief =
    ⊎_elim
    (λ (h : s.offset + k * s.period < x). omega (arith, suc-mul k s.period, brief.period_to))
    (λ (h : x ≤ s.offset + k * s.period). absurd (omega (arith, f.least k h)))
    (lt_or_ge (s.offset + k * s.period) x)

pub enters_there : (a b : Slot) {second : ℕ} → Brief a → Brief b → FirstFrom b a.offset second
    → (
    let since = b.offset + second * b.period - a.offset in
    Enters a b (record { first = since / a.period; second = second; into = since % a.period })
    )
enters_there a b {second} brief brief' f =
    let since = b.offset + second * b.period - a.offset in
    let d = div-add-mod since a.period in
    record {
      at = omega (arith, d, f.from, mul_comm (since / a.period) a.period);
      into = mod-lt since brief.period_from;
      least = f.least;
      first_word = omega (arith, div-le_self since a.period, soon b a.offset second f brief');
      second_word = f.word;
    }
