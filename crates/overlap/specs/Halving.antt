-- What the inner functions of the divisor tell: a number halved, and two numbers parted.
use Rattle.std.specs.Prelude.{ℕ, ◌+◌, ◌*◌, ◌%◌, ◌^◌, ◌<◌, ◌≡◌, ◌⊎◌}
use Rattle.overlap.specs.declared.divisor.Halved.{Halved}
use Rattle.overlap.specs.declared.divisor.Parted.{Parted}

abbrev pub Odd : ℕ → Type 0
Odd x = x % 2 ≡ 1

-- x is the odd number doubled so many times: less than 64, since x has 64 bits.
pub record HalvedFrom (x : ℕ) (h : Halved) : Type 0 where
  pub odd : Odd h.odd
  pub whole : h.odd * 2 ^ h.times ≡ x
  pub few : h.times < 64

-- m is the lesser, and the difference leads from it to w.
abbrev pub LeadsTo : ℕ → ℕ → Parted → Type 0
LeadsTo m w p = (p.lesser ≡ m) × (m + p.difference ≡ w)

-- The lesser of x and y, and their difference.
abbrev pub PartedFrom : ℕ → ℕ → Parted → Type 0
PartedFrom x y p = LeadsTo x y p ⊎ LeadsTo y x p
