-- The lowest record that is not good is one, and there is none where all are good. Assumes nothing.
use Prim.Native.Nat.{ℕ, ◌≤◌, ◌<◌}
use mathlib.Core.Path.{◌≡◌, sym}
use mathlib.Core.Logic.{⊎_elim}
use native.Mathlib.Nat.{eq-or-lt_of_le}
use native.Mathlib.Omega.{arith}
use Rattle.basics.specs.Lowest.{All, AllFrom, Lowest}
use Rattle.basics.proofs.Splits.{lt_or_ge}

module _ {Good : ℕ → Type 0} {from to : ℕ} where
  pub not_all : {p : ℕ} → Lowest Good from to p → AllFrom Good from to → ⊥
  not_all l a = l.bad (a _ l.above l.inside)

  pub lowest_is_one : {p q : ℕ} → Lowest Good from to p → Lowest Good from to q → p ≡ q
  lowest_is_one {p} {q} l m =
      ⊎_elim
      (λ (h : p < q). absurd (l.bad (m.before p l.above h)))
      (λ (h : q ≤ p). ⊎_elim (λ (e : q ≡ p). sym e) (λ (g : q < p). absurd (m.bad (l.before q m.above g))) (eq-or-lt_of_le h))
      (lt_or_ge p q)

-- From the first record on.
module _ {Good : ℕ → Type 0} {n : ℕ} where
  pub from_first : All Good n → AllFrom Good 0 n
  from_first a i z h = a i h

  pub all_of : AllFrom Good 0 n → All Good n
  all_of a i h = a i (omega arith) h

  pub lowest_of_all : {p : ℕ} → p < n → (Good p → ⊥) → All Good p → Lowest Good 0 n p
  lowest_of_all h b a = record { above = omega arith; inside = h; bad = b; before = λ i z l. a i l }
