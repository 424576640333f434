-- The least common multiple by the greatest common divisor, the cycle of slots of a list, and that masks repeat with it. Assumes nothing.
use Prim.Native.Nat.{ℕ, zero, suc, ◌+◌, ◌*◌, ◌-◌, ◌/◌, ◌∣◌, ◌≤◌, ◌<◌}
use mathlib.Core.Path.{◌≡◌, refl, sym, ◌∙◌, ap, subst}
use mathlib.Core.List.{List}
use mathlib.Core.Logic.{◌⊎◌, inl, inr, ⊎_elim}
use native.Mathlib.Nat.{dvd-sub, dvd_trans, dvd-mul_left, dvd-mul_right, mul-dvd-mul_left, mul-dvd-mul_right, dvd-mul_left_of_dvd, dvd_of_mul-dvd-mul_left, dvd_antisymm, mul-div_cancel', div-mul_cancel, mul_assoc, mul_comm, add-mul, zero-mod, mod_self, mul-le-mul_right, suc-mul, le_of_dvd, one-dvd}
use native.Mathlib.Omega.{arith}
use Rattle.basics.proofs.Splits.{lt_or_ge}
use Rattle.overlap.specs.Meeting.{HoldsLink}
use Rattle.overlap.specs.Divisor.{IsGcd}
use Rattle.overlap.specs.declared.Slot.{Slot}
use Rattle.overlap.proofs.Congruent.{congruent}
use Rattle.overlap.proofs.Euclid.{gcd_positive}
use Rattle.gates.specs.Holding.{Held, Right, held, idle}
use Rattle.gates.specs.Pairs.{mask_of, max_cycle}
use Rattle.gates.specs.Cycle.{CommonMultiple, IsCycle}
use Rattle.gates.specs.declared.slots.StoredSlot.{StoredSlot}
use Rattle.gates.specs.Steps.{Kept, slot_in, InSlots, IsLcm}
use Rattle.gates.specs.Theorems.{OneCycle, AllKept, CycleRepeats, RightForEver}

module _ (a b g : ℕ) (pa : 1 ≤ a) (pb : 1 ≤ b) (d : IsGcd a b g) where
  -- Some multiple of a is g more than some multiple of b. So a·b divides g·m for each common multiple m.
  product_divides : (m : ℕ) → a ∣ m → b ∣ m → a * b ∣ g * m
  product_divides m p q =
      let c = congruent (a + b) a b 0 g g (omega arith) pa pb d (zero-mod g ∙ sym (mod_self g)) in
      let k = c.k in
      let n = c.m in
      let x : a * b ∣ k * (a * m) = dvd-mul_left_of_dvd (a * b) (mul-dvd-mul_left b a q) k in
      let y : a * b ∣ n * (m * b) = dvd-mul_left_of_dvd (a * b) (mul-dvd-mul_right a p b) n in
      let e : k * a ≡ g + n * b = omega (arith, c.equal) in
      let f : k * (a * m) ≡ g * m + n * b * m = sym (mul_assoc k a m) ∙ ap (λ (z : ℕ). z * m) e ∙ add-mul g (n * b) m in
      let h : n * b * m ≡ n * (m * b) = mul_assoc n b m ∙ ap (λ (z : ℕ). n * z) (mul_comm b m) in
      let s : k * (a * m) - n * (m * b) ≡ g * m = omega arith in
      subst (λ (z : ℕ). a * b ∣ z) s (dvd-sub (a * b) x y)

  pub lcm_is : IsLcm a b (a / g * b)
  lcm_is =
      let gp = gcd_positive a b g pa d in
      let ga : g * (a / g) ≡ a = mul-div_cancel' g d.left in
      let gb : g * (b / g) ≡ b = mul-div_cancel' g d.right in
      let ag : a / g * g ≡ a = div-mul_cancel g d.left in
      let one : 1 ≤ a / g = ⊎_elim (λ (z : a / g < 1). let w : a / g ≡ 0 = omega arith in let v = ap (λ (y : ℕ). g * y) w in absurd (omega arith)) (λ (z : 1 ≤ a / g). z) (lt_or_ge (a / g) 1) in
      record {
        positive = let m = mul-le-mul_right b one in omega arith;
        left =
            let e : a / g * b ≡ a * (b / g) = ap (λ (z : ℕ). a / g * z) (sym gb) ∙ sym (mul_assoc (a / g) g (b / g)) ∙ ap (λ (z : ℕ). z * (b / g)) ag in
            subst (λ (z : ℕ). a ∣ z) (sym e) (dvd-mul_right a (b / g));
        right = dvd-mul_left b (a / g);
        least = λ m p q.
            let e : a * b ≡ g * (a / g * b) = ap (λ (z : ℕ). z * b) (sym ga) ∙ mul_assoc g (a / g) b in
            dvd_of_mul-dvd-mul_left (a / g * b) gp.0 (subst (λ (z : ℕ). z ∣ g * m) e (product_divides m p q));
      }

-- Without slots the cycle is 1.
pub cycle_empty : (S : Slot → Type 0) → ((s : Slot) → S s → ⊥) → IsCycle S 1
cycle_empty S none = record { positive = omega arith; common = record { divides = λ s h. absurd (none s h) }; least = λ m h. one-dvd m }

-- Q has the slots of S and the slot s, and no other.
pub record OneMore (S : Slot → Type 0) (s : Slot) (Q : Slot → Type 0) : Type 0 where
  pub old : (r : Slot) → S r → Q r
  pub new : Q s
  pub no_other : (r : Slot) → Q r → (r ≡ s) ⊎ S r

pub cycle_one_more : (S : Slot → Type 0) (s : Slot) (Q : Slot → Type 0) → OneMore S s Q → (c m : ℕ) → IsCycle S c → IsLcm c s.period m → IsCycle Q m
cycle_one_more S s Q w c m p q = record {
  positive = q.positive;
  common = record {
    divides = λ r h.
        ⊎_elim
        (λ (e : r ≡ s). subst (λ (z : Slot). z.period ∣ m) (sym e) q.right)
        (λ (b : S r). dvd_trans r.period (p.common.divides r b) q.left)
        (w.no_other r h);
  };
  least = λ k h. q.least k (p.least k (record { divides = λ r b. h.divides r (w.old r b) })) (h.divides s w.new);
}

-- The cycle of the first slots of a list.
module _ (slots : List StoredSlot) where
  pub cycle_none : IsCycle (InSlots slots 0) 1
  cycle_none = cycle_empty (InSlots slots 0) (λ s h. omega (arith, h.there))

  one_more_slot : (i : ℕ) → OneMore (InSlots slots i) (slot_in slots i) (InSlots slots (i + 1))
  one_more_slot i = record {
    old = λ r b. record { which = b.which; there = omega (arith, b.there); is = b.is };
    new = record { which = i; there = omega arith; is = refl };
    no_other = λ r h.
        ⊎_elim
        (λ (b : h.which < i). inr (record { which = h.which; there = b; is = h.is }))
        (λ (b : i ≤ h.which). let e : h.which ≡ i = omega (arith, h.there) in inl (h.is ∙ ap (slot_in slots) e))
        (lt_or_ge h.which i);
  }

  pub cycle_more : (i c r : ℕ) → IsCycle (InSlots slots i) c → IsLcm c (slot_in slots i).period r → IsCycle (InSlots slots (i + 1)) r
  cycle_more i c r p q = cycle_one_more (InSlots slots i) (slot_in slots i) (InSlots slots (i + 1)) (one_more_slot i) c r p q

  pub cycle_past : (i n r : ℕ) → i < n → IsCycle (InSlots slots (i + 1)) r → max_cycle < r → (z : ℕ) → IsCycle (InSlots slots n) z → max_cycle < z
  cycle_past i n r b p h z q =
      let d = p.least z (record { divides = λ s k. q.common.divides s (record { which = k.which; there = omega (arith, k.there); is = k.is }) }) in
      omega (arith, le_of_dvd q.positive d)

pub one_cycle : OneCycle
one_cycle S c d p q = dvd_antisymm (p.least d q.common) (q.least c p.common)

-- The same slots have the same cycle.
pub cycle_also : (S Q : Slot → Type 0) (c : ℕ) → ((s : Slot) → S s → Q s) → ((s : Slot) → Q s → S s) → IsCycle S c → IsCycle Q c
cycle_also S Q c to from p = record {
  positive = p.positive;
  common = record { divides = λ s h. p.common.divides s (from s h) };
  least = λ m h. p.least m (record { divides = λ s k. h.divides s (to s k) });
}

-- A hold one cycle later, and one cycle before.
module _ (s : Slot) (c x k : ℕ) (d : s.period ∣ c) where
  hold_later : HoldsLink s k x → HoldsLink s (k + c / s.period) (x + c)
  hold_later h =
      let e : c / s.period * s.period ≡ c = div-mul_cancel s.period d in
      let f = add-mul k (c / s.period) s.period in
      record { begun = omega (arith, h.begun); not_ended = omega (arith, h.not_ended) }

  hold_before : Kept s → HoldsLink s k (x + c) → HoldsLink s (k - c / s.period) x
  hold_before w h =
      let q = c / s.period in
      let e : q * s.period ≡ c = div-mul_cancel s.period d in
      let begun = h.begun in
      let ended = h.not_ended in
      ⊎_elim
      (λ (l : k < q).
      let m = mul-le-mul_right s.period l in
      let f = suc-mul k s.period in
      absurd (omega (arith, w.window)))
      (λ (l : q ≤ k).
      let z : k - q + q ≡ k = omega arith in
      let f = add-mul (k - q) q s.period in
      let v = ap (λ (y : ℕ). y * s.period) z in
      record { begun = omega arith; not_ended = omega arith })
      (lt_or_ge k q)

module _ (S : Slot → Type 0) (c : ℕ) (k : AllKept S) (m : CommonMultiple S c) (x : ℕ) where
  held_later : Held S x → Held S (x + c)
  held_later h = record { slot = h.slot; on = h.on; turn = h.turn + c / h.slot.period; holds = hold_later h.slot c x h.turn (m.divides h.slot h.on) h.holds }

  held_before : Held S (x + c) → Held S x
  held_before h = record {
    slot = h.slot;
    on = h.on;
    turn = h.turn - c / h.slot.period;
    holds = hold_before h.slot c x h.turn (m.divides h.slot h.on) (k h.slot h.on) h.holds;
  }

  right_later : (mask : ℕ) → Right S x mask → Right S (x + c) mask
  right_later mask (held h e) = held (held_later h) e
  right_later mask (idle h e) = idle (λ w. h (held_before w)) e

  right_before : (mask : ℕ) → Right S (x + c) mask → Right S x mask
  right_before mask (held h e) = held (held_before h) e
  right_before mask (idle h e) = idle (λ w. h (held_later w)) e

pub cycle_repeats : CycleRepeats
cycle_repeats S c k m x mask = (right_later S c k m x mask, right_before S c k m x mask)

-- Many cycles later.
pub right_many : (S : Slot → Type 0) (c : ℕ) → AllKept S → CommonMultiple S c → (x mask k : ℕ) → Right S x mask → Right S (x + k * c) mask
right_many S c a m x mask zero r = let e : x + 0 * c ≡ x = omega arith in rw e r
right_many S c a m x mask (suc k) r =
    let e : x + suc k * c ≡ x + k * c + c = let f = suc-mul k c in omega arith in
    rw e (right_later S c a m (x + k * c) mask (right_many S c a m x mask k r))

pub right_for_ever : RightForEver
right_for_ever S c w n k m p pass i y h s = right_many S c k m y (mask_of w i) pass (p.pairs.right i y h s)
