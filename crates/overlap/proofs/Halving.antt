-- Halving and subtraction keep the greatest common divisor: an odd number shares no power of two with any other, and what divides two numbers
-- divides their difference. Assumes nothing.
use Prim.Native.Nat.{ℕ, zero, suc, ◌+◌, ◌*◌, ◌/◌, ◌%◌, ◌^◌, ◌∣◌, ◌-◌, ◌≤◌, ◌<◌, min}
use mathlib.Core.Path.{◌≡◌, refl, ◌∙◌, sym, ap, subst}
use mathlib.Core.Logic.{◌⊎◌, inl, inr, ⊎_elim}
use native.Mathlib.Nat.{dvd-add, dvd_trans, dvd-add_iff_right, dvd-mul_left, dvd-mul_left_of_dvd, dvd-mul_right_of_dvd, dvd_of_mod-eq-zero, mod-eq-zero_of_dvd, mul-dvd-mul_left, dvd_of_mul-dvd-mul_left, mul-one, mul-suc, mul_comm, mul_left_comm, pow-succ', div-one, div-div-eq-div-mul, mod-eq_of_lt, min-eq_left, min-eq_right, not-suc-le-zero, zero-lt-suc, le_of_suc-le-suc, mul-le-mul_left}
use native.Mathlib.Omega.{arith}
use lib.Count.{count_trailing_zeros, under}
use lib.Pow.{pow_pos}
use mir.Syntax.{w64}
use mir.Val.{Fits}
use Rattle.basics.proofs.Splits.{lt_or_ge}
use Rattle.overlap.specs.Divisor.{IsGcd}
use Rattle.overlap.specs.Halving.{Odd, HalvedFrom, LeadsTo, PartedFrom}
use Rattle.overlap.specs.declared.divisor.Halved.{Halved}
use Rattle.overlap.specs.declared.divisor.Parted.{Parted}
use Rattle.overlap.proofs.Congruent.{swap_gcd}
use Rattle.overlap.proofs.Euclid.{ends, gcd_same, gcd_positive}

-- A number is even or odd.
parity : (e : ℕ) → (e % 2 ≡ 0) ⊎ Odd e
parity e = ⊎_elim (λ (h : e % 2 < 1). inl (omega arith)) (λ (h : 1 ≤ e % 2). inr (omega arith)) (lt_or_ge (e % 2) 1)

-- One doubling more.
doubling : (x k : ℕ) → x * 2 ^ suc k ≡ 2 * (x * 2 ^ k)
doubling x k = ap (λ (z : ℕ). x * z) (pow-succ' 2 k) ∙ mul_left_comm x 2 (2 ^ k)

-- ---- What an odd number divides

-- It divides a number if it divides its double.
odd_halves : (e x : ℕ) → Odd e → e ∣ 2 * x → e ∣ x
odd_halves e x o h =
    let m = e / 2 in
    let d : e ≡ suc (2 * m) = omega arith in
    let p = mul-suc x (2 * m) in
    let q = mul_left_comm x 2 m in
    let r = mul_left_comm m 2 x in
    let s = mul_comm x m in
    let whole : x * suc (2 * m) ≡ m * (2 * x) + x = omega arith in
    (dvd-add_iff_right e (dvd-mul_left_of_dvd e h m)).1 (subst (λ (z : ℕ). e ∣ z) (ap (λ (z : ℕ). x * z) d ∙ whole) (dvd-mul_left e x))

odd_out : (k e x : ℕ) → Odd e → e ∣ x * 2 ^ k → e ∣ x
odd_out zero e x o h = subst (λ (z : ℕ). e ∣ z) (mul-one x) h
odd_out (suc k) e x o h = odd_out k e x o (odd_halves e (x * 2 ^ k) o (subst (λ (z : ℕ). e ∣ z) (doubling x k) h))

-- What divides an odd number is odd.
odd_divisor : (e m : ℕ) → Odd m → e ∣ m → Odd e
odd_divisor e m o h =
    ⊎_elim
    (λ (z : e % 2 ≡ 0). let even = mod-eq-zero_of_dvd 2 (dvd_trans 2 (dvd_of_mod-eq-zero 2 z) h) in absurd (omega arith))
    (λ (z : Odd e). z)
    (parity e)

-- ---- The divisor

-- The second number doubled some times, the first being odd.
with_twos : (k m r x g : ℕ) → Odd m → r * 2 ^ k ≡ x → IsGcd m r g → IsGcd m x g
with_twos k m r x g o whole e = record {
  left = e.left;
  right = subst (λ (z : ℕ). g ∣ z) whole (dvd-mul_right_of_dvd g e.right (2 ^ k));
  greatest = λ d p q. e.greatest d p (odd_out k d r (odd_divisor d m o p) (subst (λ (z : ℕ). d ∣ z) (sym whole) q));
}

-- The first number added to the second.
added : (m d y g : ℕ) → m + d ≡ y → IsGcd m d g → IsGcd m y g
added m d y g whole e = record {
  left = e.left;
  right = subst (λ (z : ℕ). g ∣ z) whole (dvd-add g e.left e.right);
  greatest = λ c p q. e.greatest c p ((dvd-add_iff_right c p).1 (subst (λ (z : ℕ). c ∣ z) (sym whole) q));
}

-- Both numbers doubled.
doubled : (x y g : ℕ) → IsGcd x y g → IsGcd (2 * x) (2 * y) (2 * g)
doubled x y g e = record {
  left = mul-dvd-mul_left g 2 e.left;
  right = mul-dvd-mul_left g 2 e.right;
  greatest = λ d p q.
      ⊎_elim
      (λ (z : d % 2 ≡ 0).
      let w : d ≡ 2 * (d / 2) = omega arith in
      let half : (n : ℕ) → d ∣ 2 * n → d / 2 ∣ n = λ n h. dvd_of_mul-dvd-mul_left (d / 2) (zero-lt-suc 1) (subst (λ (c : ℕ). c ∣ 2 * n) w h) in
      subst (λ (c : ℕ). c ∣ 2 * g) (sym w) (mul-dvd-mul_left (d / 2) 2 (e.greatest (d / 2) (half x p) (half y q))))
      (λ (z : Odd d). dvd-mul_left_of_dvd d (e.greatest d (odd_halves d x z p) (odd_halves d y z q)) 2)
      (parity d);
}

-- Odd numbers doubled, the first no more often than the second.
twos : (i j p q g : ℕ) → i ≤ j → Odd p → IsGcd p q g → IsGcd (p * 2 ^ i) (q * 2 ^ j) (g * 2 ^ i)
twos zero j p q g h o e = rw (mul-one p, mul-one g) (with_twos j p q (q * 2 ^ j) g o refl e)
twos (suc i) zero p q g h o e = absurd (not-suc-le-zero h)
twos (suc i) (suc j) p q g h o e = rw (doubling p i, doubling q j, doubling g i) (doubled _ _ _ (twos i j p q g (le_of_suc-le-suc h) o e))

-- ---- A number halved as long as it is even

-- The count of its trailing zeros says how often.
even_out : (d n : ℕ) → n / 2 ^ count_trailing_zeros d n * 2 ^ count_trailing_zeros d n ≡ n
unfolding count_trailing_zeros
even_out zero n = mul-one (n / 1) ∙ div-one n
even_out (suc d) n = by (n % 2) refl (even_out d (n / 2))
  where
    by : (r : ℕ) → n % 2 ≡ r → n / 2 / 2 ^ count_trailing_zeros d (n / 2) * 2 ^ count_trailing_zeros d (n / 2) ≡ n / 2
        → n / 2 ^ under r (count_trailing_zeros d (n / 2)) * 2 ^ under r (count_trailing_zeros d (n / 2)) ≡ n
    by zero e rest =
        let t = count_trailing_zeros d (n / 2) in
        let s = ap (λ (x : ℕ). n / x) (pow-succ' 2 t) ∙ sym (div-div-eq-div-mul n 2 (2 ^ t)) in
        let u : n / 2 ^ suc t * 2 ^ suc t ≡ 2 * (n / 2 / 2 ^ t * 2 ^ t) = doubling (n / 2 ^ suc t) t ∙ ap (λ (x : ℕ). 2 * (x * 2 ^ t)) s in
        omega arith
    by (suc r) e rest = mul-one (n / 1) ∙ div-one n

odd_left : (d n : ℕ) → 0 < n → n < 2 ^ d → Odd (n / 2 ^ count_trailing_zeros d n)
unfolding count_trailing_zeros
odd_left zero n h k = absurd (omega arith)
odd_left (suc d) n h k = by (n % 2) refl (λ (e : n % 2 ≡ 0). odd_left d (n / 2) (omega arith) (let w = pow-succ' 2 d in omega arith))
  where
    by : (r : ℕ) → n % 2 ≡ r → (n % 2 ≡ 0 → Odd (n / 2 / 2 ^ count_trailing_zeros d (n / 2))) → Odd (n / 2 ^ under r (count_trailing_zeros d (n / 2)))
    by zero e rest =
        let t = count_trailing_zeros d (n / 2) in
        ap (λ (x : ℕ). x % 2) (ap (λ (x : ℕ). n / x) (pow-succ' 2 t) ∙ sym (div-div-eq-div-mul n 2 (2 ^ t))) ∙ rest e
    by (suc r) e rest = ap (λ (x : ℕ). x % 2) (div-one n) ∙ omega arith

few_zeros : (d n : ℕ) → 0 < n → n < 2 ^ d → count_trailing_zeros d n < d
unfolding count_trailing_zeros
few_zeros zero n h k = absurd (omega arith)
few_zeros (suc d) n h k = by (n % 2) refl (λ (e : n % 2 ≡ 0). few_zeros d (n / 2) (omega arith) (let w = pow-succ' 2 d in omega arith))
  where
    by : (r : ℕ) → n % 2 ≡ r → (n % 2 ≡ 0 → count_trailing_zeros d (n / 2) < d) → under r (count_trailing_zeros d (n / 2)) < suc d
    by zero e rest = let l = rest e in omega arith
    by (suc r) e rest = zero-lt-suc d

pub halves : (x : ℕ) → 0 < x → Fits w64 x → HalvedFrom x (record { odd = x / 2 ^ count_trailing_zeros 64 x; times = count_trailing_zeros 64 x })
halves x h f = record { odd = odd_left 64 x h f.fits; whole = even_out 64 x; few = few_zeros 64 x h f.fits }

pub few_halvings : {x : ℕ} → 0 < x → Fits w64 x → count_trailing_zeros 64 x < 64
few_halvings {x} h f = few_zeros 64 x h f.fits

-- ---- The loop: x and y are odd, and have the divisor of a and b

pub record Narrowed (a b x y : ℕ) : Type 0 where
  pub odd : Odd x
  pub other : Odd y
  pub same : (g : ℕ) → IsGcd x y g → IsGcd a b g

-- The lesser by `min`, and the difference either way round.
pub parted_by : {x y m d : ℕ} → m ≡ min x y → d ≡ (x - y) + (y - x) → PartedFrom x y (record { lesser = m; difference = d })
parted_by {x} {y} least apart =
    ⊎_elim
    (λ (l : x < y). let le : x ≤ y = omega arith in let e = least ∙ min-eq_left le in inl (e, omega arith))
    (λ (l : y ≤ x). let e = least ∙ min-eq_right l in inr (e, omega arith))
    (lt_or_ge x y)

pub narrowed_start : {a b : ℕ} → Odd a → Odd b → Narrowed a b a b
narrowed_start o u = record { odd = o; other = u; same = λ g e. e }

module _ {a b x y : ℕ} (n : Narrowed a b x y) where
  pub narrowed_end : (x ≡ y) → IsGcd a b x
  narrowed_end q = n.same x (subst (λ (z : ℕ). IsGcd x z x) q (gcd_same x))

  module _ {p : Parted} (parts : PartedFrom x y p) where
    pub difference_positive : (x ≡ y → ⊥) → 0 < p.difference
    difference_positive far =
        ⊎_elim
        (λ (z : p.difference < 1). absurd (far (⊎_elim (λ (f : LeadsTo x y p). omega (arith, f.1)) (λ (f : LeadsTo y x p). omega (arith, f.1)) parts)))
        (λ (z : 1 ≤ p.difference). z)
        (lt_or_ge p.difference 1)

    module _ {h : Halved} (halved : HalvedFrom p.difference h) where
      no_greater : h.odd ≤ p.difference
      no_greater =
          let one : h.odd * 1 ≤ h.odd * 2 ^ h.times = mul-le-mul_left h.odd (pow_pos h.times) in
          omega (arith, one, mul-one h.odd, halved.whole)

      pub narrowed_less : p.lesser + h.odd < x + y
      narrowed_less =
          let l = no_greater in
          let ox = n.odd in
          let oy = n.other in
          ⊎_elim
          (λ (f : LeadsTo x y p). omega (arith, f.0, f.1))
          (λ (f : LeadsTo y x p). omega (arith, f.0, f.1))
          parts

      -- From the lesser, which is odd, and the halved difference to the two numbers.
      widened : (m w g : ℕ) → Odd m → LeadsTo m w p → IsGcd p.lesser h.odd g → IsGcd m w g
      widened m w g o (q, s) e = added m p.difference w g s (with_twos h.times m h.odd p.difference g o halved.whole (subst (λ (z : ℕ). IsGcd z h.odd g) q e))

      pub narrowed_next : Narrowed a b p.lesser h.odd
      narrowed_next = record {
        odd = ⊎_elim (λ (f : LeadsTo x y p). rw f.0 n.odd) (λ (f : LeadsTo y x p). rw f.0 n.other) parts;
        other = halved.odd;
        same = λ g e.
            n.same g
            (⊎_elim
            (λ (f : LeadsTo x y p). widened x y g n.odd f e)
            (λ (f : LeadsTo y x p). swap_gcd y x g (widened y x g n.other f e))
            parts);
      }

-- ---- The whole

pub none_left : {a b : ℕ} → a ≡ 0 → IsGcd a b b
none_left {a} {b} z = rw z (swap_gcd b 0 b (ends b))

pub none_right : {a b : ℕ} → b ≡ 0 → IsGcd a b a
none_right {a} {b} z = rw z (ends a)

-- The divisor of the odd parts, doubled as often as the number that was halved less often. It is no greater than that number, so no bit is lost.
less_often : {p q g : ℕ} {h k : Halved} → HalvedFrom p h → HalvedFrom q k → IsGcd h.odd k.odd g → h.times ≤ k.times → 0 < p → Fits w64 p
    → IsGcd p q ((g * 2 ^ h.times) % 2 ^ 64)
less_often {p} {q} {g} {h} {k} u v w l pos f =
    let d : IsGcd p q (g * 2 ^ h.times) = rw (sym u.whole, sym v.whole) (twos _ _ _ _ _ l u.odd w) in
    let small : g * 2 ^ h.times < 2 ^ 64 = omega (arith, (gcd_positive _ _ _ pos d).1, f.fits) in
    rw (mod-eq_of_lt small) d

module _ {a b g : ℕ} {x y : Halved} (first : HalvedFrom a x) (second : HalvedFrom b y) (e : IsGcd x.odd y.odd g) where
  first_less : x.times < y.times → 0 < a → Fits w64 a → IsGcd a b ((g * 2 ^ x.times) % 2 ^ 64)
  first_less l pos f = less_often first second e (omega arith) pos f

  second_less : y.times ≤ x.times → 0 < b → Fits w64 b → IsGcd a b ((g * 2 ^ y.times) % 2 ^ 64)
  second_less l pos f = swap_gcd _ _ _ (less_often second first (swap_gcd _ _ _ e) l pos f)

  pub fewer : 0 < a → 0 < b → Fits w64 a → Fits w64 b → IsGcd a b ((g * 2 ^ min x.times y.times) % 2 ^ 64)
  fewer u v fa fb =
      ⊎_elim
      (λ (l : x.times < y.times). let le : x.times ≤ y.times = omega arith in rw (min-eq_left le) (first_less l u fa))
      (λ (l : y.times ≤ x.times). rw (min-eq_right l) (second_less l v fb))
      (lt_or_ge x.times y.times)
