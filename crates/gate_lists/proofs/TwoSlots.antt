-- A link with one slot or two: which mask is right on it when, and its cycle. Assumes nothing.
use Prim.Native.Nat.{ℕ, ◌+◌, ◌*◌, ◌-◌, ◌∣◌, ◌≤◌, ◌<◌}
use mathlib.Core.Path.{◌≡◌, refl, sym, subst}
use mathlib.Core.Logic.{◌⊎◌, inl, ⊎_elim}
use native.Mathlib.Nat.{add-mul, dvd-sub, mul-dvd-mul_left}
use native.Mathlib.Omega.{arith}
use Rattle.overlap.specs.Meeting.{HoldsLink}
use Rattle.overlap.specs.declared.Slot.{Slot}
use Rattle.gates.specs.Holding.{Right, held, idle, held_mask, idle_mask}
use Rattle.gates.specs.Cycle.{IsCycle}

-- A link has these two slots and no other. Where it has one, it is both.
pub record Two (S : Slot → Type 0) (a b : Slot) : Type 0 where
  pub first : S a
  pub second : S b
  pub no_other : (s : Slot) → S s → (s ≡ a) ⊎ (s ≡ b)

pub alone : {S : Slot → Type 0} {a : Slot} → S a → ((s : Slot) → S s → s ≡ a) → Two S a a
alone on only = record { first = on; second = on; no_other = λ s h. inl (only s h) }

module _ {S : Slot → Type 0} {a b : Slot} (two : Two S a b) where
  -- The first slot holds the link from x up to e in its repeat k, the second one does, or none does.
  pub first_holds : (k x e : ℕ) → a.offset + k * a.period ≤ x → e ≤ a.offset + k * a.period + a.hold → (y : ℕ) → x ≤ y → y < e → Right S y held_mask
  first_holds k x e from to y f t = held (record { slot = a; on = two.first; turn = k; holds = record { begun = omega arith; not_ended = omega arith } }) refl

  pub second_holds : (k x e : ℕ) → b.offset + k * b.period ≤ x → e ≤ b.offset + k * b.period + b.hold → (y : ℕ) → x ≤ y → y < e → Right S y held_mask
  second_holds k x e from to y f t = held (record { slot = b; on = two.second; turn = k; holds = record { begun = omega arith; not_ended = omega arith } }) refl

  pub none_holds : (x e : ℕ) → ((y : ℕ) → x ≤ y → y < e → (k : ℕ) → HoldsLink a k y → ⊥) → ((y : ℕ) → x ≤ y → y < e → (k : ℕ) → HoldsLink b k y → ⊥)
      → (y : ℕ) → x ≤ y → y < e → Right S y idle_mask
  none_holds x e not_a not-b y f t =
      idle
      (λ h.
      ⊎_elim
      (λ (is : h.slot ≡ a). not_a y f t h.turn (subst (λ (s : Slot). HoldsLink s h.turn y) is h.holds))
      (λ (is : h.slot ≡ b). not-b y f t h.turn (subst (λ (s : Slot). HoldsLink s h.turn y) is h.holds))
      (two.no_other h.slot h.on))
      refl

  pub cycle_is : (c : ℕ) → 1 ≤ c → a.period ∣ c → b.period ∣ c → ((m : ℕ) → a.period ∣ m → b.period ∣ m → c ∣ m) → IsCycle S c
  cycle_is c some p q least = record {
    positive = some;
    common = record {
      divides = λ s on.
          ⊎_elim
          (λ (e : s ≡ a). subst (λ (r : Slot). r.period ∣ c) (sym e) p)
          (λ (e : s ≡ b). subst (λ (r : Slot). r.period ∣ c) (sym e) q)
          (two.no_other s on);
    };
    least = λ m h. least m (h.divides a two.first) (h.divides b two.second);
  }

-- Where v + 1 times p is v times q, it divides whatever p and q divide: that number is v + 1 times itself less v times itself.
pub multiple : (v p q m : ℕ) → (v + 1) * p ≡ v * q → p ∣ m → q ∣ m → v * q ∣ m
multiple v p q m e f g =
    let l : v * q ∣ (v + 1) * m = subst (λ (z : ℕ). z ∣ (v + 1) * m) e (mul-dvd-mul_left p (v + 1) f) in
    let z : (v + 1) * m - v * m ≡ m = omega (arith, add-mul v 1 m) in
    subst (λ (k : ℕ). v * q ∣ k) z (dvd-sub (v * q) l (mul-dvd-mul_left q v g))
