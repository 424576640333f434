-- What fits an i64 fits an i128; and tests of order, as the code makes them. Assumes nothing.
use mathlib.Core.Path.{◌≡◌, ap, ◌∙◌}
use mathlib.Core.Bool.{true, false}
use Prim.Native.Nat.{◌≤◌}
use native.Mathlib.Omega.{arith}
use lib.IntN.{ℤ, pos, negsuc, nat_abs, neg_ℤ, ◌-ℤ◌}
use lib.Signed.{le_z, lt_z, ◌≤ℤ◌, ◌<ℤ◌, lt_z_yes, lt_z_no}
use mir.Syntax.{w64, w128}
use mir.Val.{SFits, to_z, of_z}
use mir.Facts.{to_z-of_z}
use Rattle.signed.proofs.Parts.{parts, up_neg, down_neg, abs_add}

-- what fits 64 bits fits 128, and so does a difference of two such numbers
abs_fits : (z : ℤ) → SFits w64 z → nat_abs z ≤ 9223372036854775808
abs_fits (pos n) f = omega (arith, f.sfits)
abs_fits (negsuc n) f = omega (arith, f.sfits)

fits_wide : (z : ℤ) → nat_abs z ≤ 18446744073709551616 → SFits w128 z
fits_wide (pos n) h = record { sfits = omega arith }
fits_wide (negsuc n) h = record { sfits = omega arith }

pub wide : {z : ℤ} → SFits w64 z → SFits w128 z
wide {z} f = fits_wide z (omega (arith, abs_fits z f))

pub wide_difference : {y x : ℤ} → SFits w64 y → SFits w64 x → SFits w128 (y -ℤ x)
wide_difference {y} {x} g f =
    fits_wide (y -ℤ x) (omega (arith, abs_add y (neg_ℤ x), abs_fits y g, abs_fits x f, parts x, parts (neg_ℤ x), up_neg x, down_neg x))

-- z as a word of 128 bits, and read again
abbrev in_wide : ℤ → ℤ
in_wide z = to_z w128 (of_z w128 z)

pub wide_test : {x y c p q r : ℤ} → p ≡ y → q ≡ x → r ≡ c → SFits w64 x → SFits w64 y → SFits w64 c
    → le_z (in_wide (in_wide p -ℤ in_wide q)) (in_wide r) ≡ le_z (y -ℤ x) c
wide_test {x} {y} {c} {p} {q} {r} d e i f g h =
    let a : in_wide p ≡ y = ap in_wide d ∙ to_z-of_z (wide g) in
    let b : in_wide q ≡ x = ap in_wide e ∙ to_z-of_z (wide f) in
    let m : in_wide r ≡ c = ap in_wide i ∙ to_z-of_z (wide h) in
    ap (λ (z : ℤ). le_z (in_wide (z -ℤ in_wide q)) (in_wide r)) a
    ∙ ap (λ (z : ℤ). le_z (in_wide (y -ℤ z)) (in_wide r)) b
    ∙ ap (λ (z : ℤ). le_z z (in_wide r)) (to_z-of_z (wide_difference g f))
    ∙ ap (λ (z : ℤ). le_z (y -ℤ x) z) m

-- a test of two numbers of 64 bits, as the code makes it
pub less_yes : {a b : ℤ} → SFits w64 a → SFits w64 b → lt_z (to_z w64 (of_z w64 a)) (to_z w64 (of_z w64 b)) ≡ true → a <ℤ b
less_yes f g e = lt_z_yes (rw (rw (to_z-of_z f, to_z-of_z g) at e) tt)

pub less_no : {a b : ℤ} → SFits w64 a → SFits w64 b → lt_z (to_z w64 (of_z w64 a)) (to_z w64 (of_z w64 b)) ≡ false → b ≤ℤ a
less_no f g e = lt_z_no (rw (rw (to_z-of_z f, to_z-of_z g) at e) tt)
