-- A number in a unit means one time: the point is no digit, so that it is at one place, and a product has one factor beside a known one. Assumes nothing.
use Prim.Native.Nat.{ℕ, ◌+◌, ◌≤◌, ◌<◌, ◌^◌}
use mathlib.Core.Path.{◌≡◌, refl, ◌∙◌, subst}
use mathlib.Core.List.{List, [], ◌∷◌}
use mathlib.Core.Logic.{◌⊎◌, inl, inr}
use lib.ListN.{length, get_or, take, drop}
use lib.Seq.{get_or-take, length-take-le}
use native.Mathlib.Nat.{pow-le-pow_right}
use native.Mathlib.Omega.{arith}
use Rattle.basics.proofs.Splits.{lt_or_ge}
use Rattle.decimal.specs.Decimal.{IsDigit, Typed, worth_of, worth_after}
use Rattle.units.specs.Times.{point_byte, Plain, Pointed}
use Rattle.units.specs.Theorems.{InUnitOneAnswer, TimesAtNumbers}
use Rattle.units.proofs.Scaling.{worth_one}

-- A point is no digit.
no_digit : {b : ℕ} → b ≡ point_byte → IsDigit b → ⊥
no_digit e h = omega (arith, h.0)

module _ {s : List ℕ} {unit v u : ℕ} where
  alone_or_not : {p : ℕ} → Plain s unit v → Pointed s unit u p → ⊥
  alone_or_not {p} a b = no_digit b.point (a.typed.digits.digit p b.inside)

  not_before : {p q : ℕ} → Pointed s unit v p → Pointed s unit u q → p < q → ⊥
  not_before {p} {q} a b h =
      let room : length (take q s) ≡ q = length-take-le q s (omega (arith, b.inside)) in
      let digit : IsDigit (get_or (take q s) p 0) = b.before.digits.digit p (omega (arith, room, h)) in
      no_digit (get_or-take q s p 0 h ∙ a.point) digit

  at_one_place : {p : ℕ} → Pointed s unit v p → Pointed s unit u p → v ≡ u
  at_one_place {p} a b =
      let some : 1 ≤ 10 ^ length (drop (p + 1) s) = pow-le-pow_right (omega arith) {i = 0} {j = length (drop (p + 1) s)} (omega arith) in
      worth_one (worth_of (take p s)) (worth_of (drop (p + 1) s)) (10 ^ length (drop (p + 1) s)) unit (omega (arith, some)) a.worth b.worth

one_place : {s : List ℕ} {unit v u : ℕ} (p q : ℕ) → Pointed s unit v p → Pointed s unit u q → (p < q) ⊎ (q ≤ p) → (q < p) ⊎ (p ≤ q) → v ≡ u
one_place p q a b (inl h) _ = absurd (not_before a b h)
one_place p q a b (inr h) (inl k) = absurd (not_before b a k)
one_place {s} {unit} {v} {u} p q a b (inr h) (inr k) = let e : q ≡ p = omega arith in at_one_place a (subst (λ (n : ℕ). Pointed s unit u n) e b)

pub in_unit_one_answer : InUnitOneAnswer
in_unit_one_answer s unit v u (inl a) (inl b) = worth_one (worth_of s) 0 1 unit (omega arith) a.worth b.worth
in_unit_one_answer s unit v u (inl a) (inr (p, b)) = absurd (alone_or_not a b)
in_unit_one_answer s unit v u (inr (p, a)) (inl b) = absurd (alone_or_not b a)
in_unit_one_answer s unit v u (inr (p, a)) (inr (q, b)) = one_place p q a b (lt_or_ge p q) (lt_or_ge q p)

two : Typed (50 ∷ [])
two = record { some = omega arith; digits = record { digit = λ i h. let e : i ≡ 0 = omega arith in rw e (omega arith, omega arith) } }

thirty_five : Typed (51 ∷ 53 ∷ [])
thirty_five = record { some = omega arith; digits = record { digit = at } }
  where
    at : (i : ℕ) → i < 2 → IsDigit (get_or (51 ∷ 53 ∷ []) i 0)
    at i h = go (lt_or_ge 0 i)
      where
        go : (0 < i) ⊎ (i ≤ 0) → IsDigit (get_or (51 ∷ 53 ∷ []) i 0)
        go (inl k) = let e : i ≡ 1 = omega arith in rw e (omega arith, omega arith)
        go (inr k) = let e : i ≡ 0 = omega arith in rw e (omega arith, omega arith)

pub times_at_numbers : TimesAtNumbers
unfolding worth_after
times_at_numbers = (refl, λ v e. omega (arith, e), inr (1, record { inside = omega arith; point = refl; before = two; after = thirty_five; worth = refl }))
