-- First landings. n steps of length a and y turns of length m land where y turns and z steps of the inner circle do, with n = (m / a)·y + near + z; so the fewest turns give the fewest steps.
-- Assumes nothing.
use Prim.Native.Nat.{ℕ, ◌+◌, ◌*◌, ◌-◌, ◌/◌, ◌%◌, ◌≤◌, ◌<◌}
use mathlib.Core.Path.{◌≡◌, ◌∙◌, sym, ap, subst}
use mathlib.Core.Logic.{⊎_elim}
use native.Mathlib.Nat.{div-add-mod, mod-lt, mul-add, add-mul, mul_assoc, mul_comm, mul-le-mul_left, mul-suc, mul-sub, zero-mul, pos_of_ne-zero, lt_of_mul-lt-mul_left, le-mul_of_pos_right}
use native.Mathlib.Numerals.{add-one}
use native.Mathlib.Omega.{arith}
use mir.Syntax.{w64}
use mir.Val.{Fits}
use Rattle.basics.proofs.Splits.{lt_or_ge}
use Rattle.repeats.specs.Landings.{Lands, IsFirstLanding, LandsFirst, Nearest, Stretch}
use Rattle.repeats.specs.declared.landing.Landing.{Landing}
use Rattle.std.specs.Prelude.{Option, Some, None}

-- A number of steps more is a step more.
pub one_more : (a n k : ℕ) → n < k → a * n + a ≤ a * k
one_more a n k h = let m = mul-le-mul_left a h in let s = mul-suc a n in omega arith

pub nearest_is : (a l : ℕ) → 0 < a → 1 ≤ l → Nearest a l ((l - 1) / a + 1)
nearest_is a l h p =
    let d = div-add-mod (l - 1) a in
    let r = mod-lt (l - 1) h in
    let m : a * ((l - 1) / a + 1) ≡ a * ((l - 1) / a) + a = rw (add-one ((l - 1) / a)) (mul-suc a ((l - 1) / a)) in
    record { reached = omega arith; barely = omega arith }

-- No fewer steps reach the place.
pub nearest_least : {a l n : ℕ} (k : ℕ) → Nearest a l n → l ≤ a * k → n ≤ k
nearest_least {a} {l} {n} k near h =
    ⊎_elim (λ (b : k < n). absurd (let m = one_more a k n b in omega (arith, near.barely))) (λ (b : n ≤ k). b) (lt_or_ge k n)

module _ (a m l r n : ℕ) (some : 0 < a) (near : Nearest a l n) where
  abbrev c : ℕ
  c = m / a

  abbrev rest : ℕ
  rest = m % a

  -- The steps of y turns of the circle, of the inner circle's z and of the first ones.
  steps_are : (y z : ℕ) → a * (c * y + n + z) ≡ a * (c * y) + a * n + a * z
  steps_are y z = mul-add a (c * y + n) z ∙ ap (λ (x : ℕ). x + a * z) (mul-add a (c * y) n)

  turns_are : (y : ℕ) → m * y ≡ a * (c * y) + rest * y
  turns_are y = ap (λ (x : ℕ). x * y) (sym (div-add-mod m a)) ∙ add-mul (a * c) rest y ∙ ap (λ (x : ℕ). x + rest * y) (mul_assoc a c y)

  module _ (past : r < a * n) (ordered : l ≤ r) where
    abbrev Inner : ℕ → ℕ → Type 0
    Inner y z = Lands rest a (a * n - r) (a * n - l) y z

    lands_outer : (y z : ℕ) → Inner y z → Lands a m l r (c * y + n + z) y
    lands_outer y z h =
        let s = steps_are y z in
        let t = turns_are y in
        let reach = near.reached in
        record { low = omega (arith, h.high); high = omega (arith, h.low) }

    -- Whatever lands comes from the inner circle.
    record FromInner (k w : ℕ) : Type 0 where
      pub z : ℕ
      pub steps : k ≡ c * w + n + z
      pub inner : Inner w z

    lands_inner : (k w : ℕ) → Lands a m l r k w → FromInner k w
    lands_inner k w h =
        let t = turns_are w in
        let far : a * (c * w) + l ≤ a * k = omega (arith, h.low) in
        let up : c * w ≤ k = ⊎_elim (λ (b : k < c * w). absurd (let o = one_more a k (c * w) b in omega arith)) (λ (b : c * w ≤ k). b) (lt_or_ge k (c * w)) in
        let d : a * (k - c * w) ≡ a * k - a * (c * w) = mul-sub a k (c * w) in
        let most : n ≤ k - c * w = nearest_least (k - c * w) near (omega arith) in
        let e : k ≡ c * w + n + (k - c * w - n) = omega arith in
        let s = steps_are w (k - c * w - n) in
        let q : a * k ≡ a * (c * w + n + (k - c * w - n)) = ap (λ (x : ℕ). a * x) e in
        let reach = near.reached in
        record { z = k - c * w - n; steps = e; inner = record { low = omega (arith, h.high); high = omega (arith, h.low) } }

    pub never_outer : ((k z : ℕ) → Inner k z → ⊥) → (k z : ℕ) → Lands a m l r k z → ⊥
    never_outer none k z h = let i = lands_inner k z h in none z i.z i.inner

    -- Later turns have no fewer steps in the inner circle.
    turns_in_order : (y z w v : ℕ) → y ≤ w → Inner y z → Inner w v → z ≤ v
    turns_in_order y z w v h i j =
        ⊎_elim
        (λ (b : v < z).
        absurd
        (let o = one_more a v z b in
        let p = mul-le-mul_left rest h in
        let tight = near.barely in
        omega (arith, i.low, j.high)))
        (λ (b : z ≤ v). b)
        (lt_or_ge v z)

    pub first_outer : (y z : ℕ) → r < m → IsFirstLanding rest a (a * n - r) (a * n - l) y z → IsFirstLanding a m l r (c * y + n + z) y
    first_outer y z inside i =
        let up = lands_outer y z i.lands in
        let turn = one_more m y a i.few in
        let flip = mul_comm m a in
        record {
          lands = up;
          least = λ k w h.
              let from = lands_inner k w h in
              let no-fewer = i.least w from.z from.inner in
              let t = mul-le-mul_left c no-fewer in
              let v = turns_in_order y z w from.z no-fewer i.lands from.inner in
              omega (arith, from.steps);
          few = lt_of_mul-lt-mul_left a (omega (arith, up.high));
        }

  -- The steps that are nearest land in the first turn.
  pub first_near : a * n ≤ r → l ≤ r → r < m → IsFirstLanding a m l r n 0
  first_near h ordered inside = record {
    lands = record { low = omega (arith, near.reached); high = omega arith };
    least = λ k z i. nearest_least k near (omega (arith, i.low));
    few = omega (arith, le-mul_of_pos_right n some, mul_comm n a);
  }

-- The laws as the function goes by them.
module _ {a m l r : ℕ} (stretch : Stretch a m l r) where
  -- Steps of length 0 land nowhere past the start.
  pub never_moves : a ≡ 0 → (k z : ℕ) → Lands a m l r k z → ⊥
  never_moves e k z i =
      let still : a * k ≡ 0 = ap (λ (x : ℕ). x * k) e ∙ zero-mul k in
      let after = stretch.after_start in
      omega (arith, i.low)

  module _ {n : ℕ} (moves : a ≡ 0 → ⊥) (near : Nearest a l n) where
    some : 0 < a
    some = pos_of_ne-zero moves

    -- The inner circle's step is less.
    pub step_falls : {t : ℕ} → a ≡ t → m % a < t
    step_falls e = omega (arith, mod-lt m some)

    pub lands_near : a * n ≤ r → IsFirstLanding a m l r n 0
    lands_near h = first_near a m l r n some near h stretch.ordered stretch.inside

    -- Where the nearest steps lie past the stretch, that of the inner circle is asked.
    module _ (past : r < a * n) where
      pub stretch_inner : Stretch (m % a) a (a * n - r) (a * n - l)
      stretch_inner =
          let ordered = stretch.ordered in
          record {
            after_start = omega arith;
            ordered = omega arith;
            inside = omega (arith, near.reached, near.barely);
            around_to = stretch.step_to;
            step_to = omega (arith, mod-lt m some, stretch.step_to);
          }

      module _ {inner : Option Landing} where
        pub never_lands : inner ≡ None → LandsFirst (m % a) a (a * n - r) (a * n - l) inner → (k z : ℕ) → Lands a m l r k z → ⊥
        never_lands e told = never_outer a m l r n some near past stretch.ordered (subst (LandsFirst (m % a) a (a * n - r) (a * n - l)) e told)

        pub lands_later : {x : Landing} → inner ≡ Some x → LandsFirst (m % a) a (a * n - r) (a * n - l) inner
            → IsFirstLanding a m l r (m / a * x.steps + n + x.turns) x.steps
        lands_later {x} e told =
            first_outer a m l r n some near past stretch.ordered x.steps x.turns stretch.inside
            (subst (LandsFirst (m % a) a (a * n - r) (a * n - l)) e told)

        -- What leads to the steps fits 64 bits, as they do.
        pub turned_fit : {x : Landing} → inner ≡ Some x → LandsFirst (m % a) a (a * n - r) (a * n - l) inner → Fits w64 (m / a * x.steps)
        turned_fit e told = record { fits = omega (arith, (lands_later e told).few, stretch.around_to) }

        pub turned_near_fit : {x : Landing} → inner ≡ Some x → LandsFirst (m % a) a (a * n - r) (a * n - l) inner → Fits w64 (m / a * x.steps + n)
        turned_near_fit e told = record { fits = omega (arith, (lands_later e told).few, stretch.around_to) }

        pub steps_fit : {x : Landing} → inner ≡ Some x → LandsFirst (m % a) a (a * n - r) (a * n - l) inner → Fits w64 (m / a * x.steps + n + x.turns)
        steps_fit e told = record { fits = omega (arith, (lands_later e told).few, stretch.around_to) }
