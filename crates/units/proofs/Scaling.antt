-- Units and parts of a unit in ns: a product and a quotient, of which nothing is left over. Assumes nothing.
use Prim.Native.Nat.{ℕ, ◌+◌, ◌*◌, ◌/◌, ◌%◌, ◌≤◌, ◌<◌}
use mathlib.Core.Path.{◌≡◌, sym, ◌∙◌, ap}
use native.Mathlib.Nat.{add-mul, mul_right_comm, mul-le-mul, div-add-mod', mul-add-mod_self_right, mul-mod_left, eq_of_mul-eq-mul_right}
use native.Mathlib.Omega.{arith}
use mir.Syntax.{w32}
use mir.Val.{Fits}
use Rattle.units.specs.Times.{Worth}

-- A word times a unit has less than 62 bits.
pub product_small : {a unit : ℕ} → Fits w32 a → unit ≤ 1000000000 → a * unit ≤ 4294967296000000000
product_small {a} {unit} h u = let b : a ≤ 4294967296 = omega (arith, h) in mul-le-mul b u

module _ (a b scale unit : ℕ) where
  -- All of it in parts of a ns.
  in_parts : (a * scale + b) * unit ≡ a * unit * scale + b * unit
  in_parts = add-mul (a * scale) b unit ∙ ap (λ (n : ℕ). n + b * unit) (mul_right_comm a scale unit)

  pub not_whole : ((b * unit) % scale ≡ 0 → ⊥) → (v : ℕ) → Worth a b scale unit v → ⊥
  not_whole h v w =
      h (sym (mul-add-mod_self_right (a * unit) scale (b * unit)) ∙ ap (λ (n : ℕ). n % scale) (sym (w ∙ in_parts)) ∙ mul-mod_left v scale)

  pub worth_is : (b * unit) % scale ≡ 0 → Worth a b scale unit (a * unit + b * unit / scale)
  worth_is h =
      let back : b * unit / scale * scale ≡ b * unit = omega (arith, div-add-mod' (b * unit) scale, h) in
      add-mul (a * unit) (b * unit / scale) scale ∙ ap (λ (n : ℕ). a * unit * scale + n) back ∙ sym in_parts

  pub worth_one : 0 < scale → {v u : ℕ} → Worth a b scale unit v → Worth a b scale unit u → v ≡ u
  worth_one s {v} {u} h k = eq_of_mul-eq-mul_right scale s v u (h ∙ sym k)
