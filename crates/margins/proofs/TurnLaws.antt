-- How far it is to the next and to the last number that a condition allows: remainders of two numbers less than a modulus apart. Assumes nothing.
use Prim.Native.Nat.{ℕ, ◌+◌, ◌-◌, ◌%◌, ◌≤◌, ◌<◌}
use mathlib.Core.Path.{◌≡◌, ◌∙◌, sym, ap}
use mathlib.Core.Logic.{◌⊎◌, inl, inr, ⊎_elim}
use native.Mathlib.Nat.{mod-add-mod, mod-eq_of_lt, mod-eq-sub-mod, mod-lt}
use native.Mathlib.Omega.{arith}
use Rattle.std.specs.Prelude.{max}
use Rattle.basics.proofs.Splits.{lt_or_ge}
use Rattle.offsets.specs.Conditions.{Allows, Sound}
use Rattle.offsets.specs.declared.Condition.{Condition}
use Rattle.margins.specs.Ranges.{Ahead, Behind, RestOf, Turning, TurnedFrom, rest}

-- A remainder that is at least 1 away from the modulus is just that far from it: no remainder is the modulus.
pub turned : (q : Condition) (after : ℕ) → Sound q → after ≡ max q.after 1
    → TurnedFrom q (record { modulus = q.modulus; shift = q.shift; before = q.before; after = after })
turned q after s is = record {
  turning = record {
    sound = record { some = s.some; modulus = s.modulus; shift = s.shift; before = s.before; after = omega (arith, s.after) };
    some = omega arith;
  };
  to = λ x k. record { apart = record { first = k.apart.first; second = omega (arith, k.apart.second) } };
  from = λ x k. let l = mod-lt (x + q.shift) s.some in record {
    apart = record { first = k.apart.first; second = omega (arith, k.apart.second) };
  };
}

module _ (q : Condition) (t : Turning q) where
  below : (x : ℕ) → rest q x < q.modulus
  below x = mod-lt (x + q.shift) t.sound.some

  -- The remainders of two numbers: as far apart as the numbers, or by a modulus less.
  steps : (z x : ℕ) → z ≤ x → x - z < q.modulus → (rest q z + (x - z) ≡ rest q x) ⊎ (rest q z + (x - z) ≡ rest q x + q.modulus)
  steps z x le near =
      let l = below z in
      let s : z + q.shift + (x - z) ≡ x + q.shift = omega arith in
      let e : (rest q z + (x - z)) % q.modulus ≡ rest q x = mod-add-mod (z + q.shift) q.modulus (x - z) ∙ ap (λ (v : ℕ). v % q.modulus) s in
      ⊎_elim
      (λ (k : rest q z + (x - z) < q.modulus). inl (sym (mod-eq_of_lt k) ∙ e))
      (λ (k : q.modulus ≤ rest q z + (x - z)).
      let f : (rest q z + (x - z)) % q.modulus ≡ rest q z + (x - z) - q.modulus = mod-eq-sub-mod k ∙ mod-eq_of_lt (omega arith) in
      inr (omega arith))
      (lt_or_ge (rest q z + (x - z)) q.modulus)

  allow : (x : ℕ) → q.before ≤ rest q x → q.after + rest q x ≤ q.modulus → Allows q x
  allow x f s = record { apart = record { first = f; second = s } }

  module _ (x r : ℕ) (of : RestOf q x r) (room : q.before + q.after ≤ q.modulus) where
    -- On from x: the remainder of a number at most so far on.
    on : (w z : ℕ) → w < q.modulus → x ≤ z → z ≤ x + w → (r + (z - x) ≡ rest q z) ⊎ (r + (z - x) ≡ rest q z + q.modulus)
    on w z near from to = rw of.same (steps x z from (omega arith))

    -- Too late: round to 0, and then up to `before`.
    pub ahead_late : q.modulus - r < q.after → Ahead q x (q.modulus - r + q.before)
    ahead_late late =
        let w = q.modulus - r + q.before in
        let here = below x in
        record {
          small = omega (arith, t.sound.modulus);
          there =
              let l = below (x + w) in
              let s = on w (x + w) (omega arith) (omega arith) (omega arith) in
              allow (x + w) (⊎_elim (λ e. omega arith) (λ e. omega arith) s) (⊎_elim (λ e. omega arith) (λ e. omega arith) s);
          none = λ z from to a.
              let l = below z in
              ⊎_elim (λ e. omega (arith, a.apart.second)) (λ e. omega (arith, a.apart.first)) (on w z (omega arith) from (omega arith));
        }

    -- Back from x: the remainder of a number at most so far back.
    off : (w z : ℕ) → w < q.modulus → z ≤ x → x ≤ z + w → (rest q z + (x - z) ≡ r) ⊎ (rest q z + (x - z) ≡ r + q.modulus)
    off w z near to from = rw of.same (steps z x to (omega arith))

    -- Too early: back to 0, round, and back to `after` before the modulus.
    pub back_early : r < q.before → Behind q x (r + q.after)
    back_early early =
        let w = r + q.after in
        let some = t.some in
        record {
          small = omega (arith, t.sound.modulus);
          there = λ z there.
              let l = below z in
              let s = off w z (omega arith) (omega arith) (omega arith) in
              allow z (⊎_elim (λ e. omega arith) (λ e. omega arith) s) (⊎_elim (λ e. omega arith) (λ e. omega arith) s);
          none = λ z to from a.
              let l = below z in
              ⊎_elim (λ e. omega (arith, a.apart.first)) (λ e. omega (arith, a.apart.second)) (off w z (omega arith) to (omega arith));
        }

    -- Too late: back to `after` before the modulus.
    pub back_late : q.modulus - r < q.after → Behind q x (q.after - (q.modulus - r))
    back_late late =
        let w = q.after - (q.modulus - r) in
        let here = below x in
        record {
          small = omega (arith, t.sound.after);
          there = λ z there.
              let l = below z in
              let s = off w z (omega arith) (omega arith) (omega arith) in
              allow z (⊎_elim (λ e. omega arith) (λ e. omega arith) s) (⊎_elim (λ e. omega arith) (λ e. omega arith) s);
          none = λ z to from a.
              let l = below z in
              ⊎_elim (λ e. omega (arith, a.apart.second)) (λ e. omega (arith, a.apart.second)) (off w z (omega arith) to (omega arith));
        }
