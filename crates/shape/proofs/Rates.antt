-- The rates: those of the plans of the cases, that each is some and small, and that no other number is one. Assumes nothing.
use Prim.Native.Nat.{ℕ, ◌≤◌}
use mathlib.Core.Path.{◌≡◌, refl}
use mathlib.Core.Logic.{inl, inr, ⊎_elim}
use native.Mathlib.Omega.{arith}
use Rattle.shape.specs.Links.{IsRate}
use Rattle.shape.specs.Guarantees.{max_rate}

-- 1 Gb/s, 100 Mb/s and 10 Mb/s.
pub gigabit : IsRate 8
gigabit = inl refl

pub hundred_megabit : IsRate 80
hundred_megabit = inr (inl refl)

pub ten_megabit : IsRate 800
ten_megabit = inr (inr refl)

pub rate_small : (r : ℕ) → IsRate r → (1 ≤ r) × (r ≤ max_rate)
rate_small r (inl e) = (omega arith, omega arith)
rate_small r (inr (inl e)) = (omega arith, omega arith)
rate_small r (inr (inr e)) = (omega arith, omega arith)

pub no_rate : (r : ℕ) → (r ≡ 8 → ⊥) → (r ≡ 80 → ⊥) → (r ≡ 800 → ⊥) → IsRate r → ⊥
no_rate r a b c = ⊎_elim a (⊎_elim b c)
