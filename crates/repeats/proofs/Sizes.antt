-- What the code computes fits 64 bits: an instant is below the offset, so many repeats and a period of 1 s. Assumes nothing.
use Prim.Native.Nat.{ℕ, ◌+◌, ◌*◌, ◌/◌, ◌≤◌}
use native.Mathlib.Nat.{div-le_self, mul-le-mul}
use native.Mathlib.Omega.{arith}
use mir.Syntax.{w64}
use mir.Val.{Fits}
use Rattle.numbers.specs.Number.{max_word}
use Rattle.repeats.specs.Landings.{longest_period}
use Rattle.repeats.specs.Steps.{many_repeats}

pub quotient_fits : (x d : ℕ) → x ≤ max_word → Fits w64 (x / d + 1)
quotient_fits x d h = record { fits = omega (arith, div-le_self x d) }

module _ {k p : ℕ} (many : k ≤ many_repeats) (brief : p ≤ longest_period) where
  product : k * p ≤ many_repeats * longest_period
  product = mul-le-mul many brief

  pub repeats_fit : Fits w64 (k * p)
  repeats_fit = record { fits = omega (arith, product) }

  pub instant_fits : {o : ℕ} → o ≤ max_word → Fits w64 (o + k * p)
  instant_fits h = record { fits = omega (arith, product) }
