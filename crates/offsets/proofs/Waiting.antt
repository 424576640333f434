-- How far it is to the next number that a condition allows. Assumes nothing.
use Prim.Native.Nat.{ℕ, ◌+◌, ◌-◌, ◌%◌, ◌≤◌, ◌<◌}
use mathlib.Core.Path.{◌≡◌, ◌∙◌, sym, ap}
use mathlib.Core.Logic.{⊎_elim}
use native.Mathlib.Nat.{mod-add-mod, mod-eq_of_lt, mod-eq-sub-mod, mod-lt}
use native.Mathlib.Omega.{arith}
use Rattle.basics.proofs.Splits.{lt_or_ge}
use Rattle.offsets.specs.declared.Condition.{Condition}
use Rattle.offsets.specs.Conditions.{Allows, Sound}
use Rattle.offsets.specs.Steps.{Skips, Waits}

-- The remainder of x is r, found without a division.
pub below_once : {s m : ℕ} → s < m → s ≡ s % m
below_once l = sym (mod-eq_of_lt l)

pub below_twice : {s m : ℕ} → m ≤ s → s - m < m → s - m ≡ s % m
below_twice {s} {m} h l = sym (mod-eq-sub-mod h ∙ mod-eq_of_lt l)

module _ (q : Condition) (x r : ℕ) (is : r ≡ (x + q.shift) % q.modulus) where
  -- The remainder of a number further on.
  further : (z : ℕ) → x ≤ z → (z + q.shift) % q.modulus ≡ (r + (z - x)) % q.modulus
  further z h =
      let s : z + q.shift ≡ x + q.shift + (z - x) = omega arith in
      ap (λ (v : ℕ). v % q.modulus) s ∙ sym (mod-add-mod (x + q.shift) q.modulus (z - x)) ∙ ap (λ (v : ℕ). (v + (z - x)) % q.modulus) (sym is)

  pub remainder_below : Sound q → r < q.modulus
  remainder_below sound = omega (arith, is, mod-lt (x + q.shift) sound.some)

  -- Too early: up to `before`.
  pub waits_early : r < q.before → Waits q x (q.before - r)
  waits_early early = record {
    some = omega arith;
    none = λ room z from below a.
        let e : (z + q.shift) % q.modulus ≡ r + (z - x) = further z from ∙ mod-eq_of_lt (omega arith) in
        omega (arith, a.apart.first);
  }

  -- Too late: round to 0, and then up to `before`.
  pub waits_late : Sound q → q.modulus - r < q.after → Waits q x (q.modulus - r + q.before)
  waits_late sound late =
      let small = remainder_below sound in
      record {
        some = omega arith;
        none = λ room z from below a.
            ⊎_elim
            (λ (l : r + (z - x) < q.modulus).
            let e : (z + q.shift) % q.modulus ≡ r + (z - x) = further z from ∙ mod-eq_of_lt l in
            omega (arith, a.apart.second))
            (λ (l : q.modulus ≤ r + (z - x)).
            let e : (z + q.shift) % q.modulus ≡ r + (z - x) - q.modulus = further z from ∙ mod-eq-sub-mod l ∙ mod-eq_of_lt (omega arith) in
            omega (arith, a.apart.first))
            (lt_or_ge (r + (z - x)) q.modulus);
      }

  -- Neither: x itself is allowed.
  pub stays_here : {limit : ℕ} → Sound q → x ≤ limit → q.before ≤ r → q.after ≤ q.modulus - r → Skips (Allows q) limit x x
  stays_here sound h first second = record {
    passes = record { up = omega arith; to = h; none = λ z from below a. omega arith };
    stays = λ e l. record { apart = record { first = omega (arith, is); second = omega (arith, is, remainder_below sound) } };
  }

module _ {q : Condition} {limit x w : ℕ} (waits : Waits q x w) (inside : x ≤ limit) (room : q.before + q.after ≤ q.modulus) where
  -- To the limit, which is no further.
  pub moved_to_limit : limit - x ≤ w → Skips (Allows q) limit x limit
  moved_to_limit near = record {
    passes = record { up = inside; to = omega arith; none = λ z from below a. waits.none room z from (omega arith) a };
    stays = λ e l. absurd (omega arith);
  }

  pub moved_on : w < limit - x → Skips (Allows q) limit x (x + w)
  moved_on far = record {
    passes = record { up = omega arith; to = omega arith; none = waits.none room };
    stays = λ e l. absurd (omega (arith, waits.some));
  }
