-- Signed numbers for omega, which reads none: a number is `up` minus `down`, and its order and its sums are facts on these two. Assumes nothing.
use mathlib.Core.Path.{◌≡◌, refl, ap}
use mathlib.Core.Bool.{Bool, true, false, cond}
use Prim.Native.Nat.{ℕ, zero, suc, ◌+◌, ◌-◌, ◌≤◌, ◌<◌}
use native.Mathlib.Omega.{arith}
use lib.Dec.{T, ltb, ltb→lt, lt→ltb, leb→le, le→leb, nltb→le}
use lib.IntN.{ℤ, pos, negsuc, nat_abs, sub_ℕ, ◌+ℤ◌, ◌-ℤ◌, neg_ℤ}
use lib.Signed.{mag, ◌≤ℤ◌, ◌<ℤ◌, le_z, lt_z}

abbrev pub up : ℤ → ℕ
up (pos n) = n
up (negsuc n) = 0

abbrev pub down : ℤ → ℕ
down (pos n) = 0
down (negsuc n) = suc n

le_in : (a b : ℤ) → T (le_z a b) → up a + down b ≤ up b + down a
le_in (pos a) (pos b) h = omega (arith, leb→le a b h)
le_in (pos a) (negsuc b) h = absurd h
le_in (negsuc a) (pos b) h = omega arith
le_in (negsuc a) (negsuc b) h = omega (arith, leb→le b a h)

pub le : {a b : ℤ} → a ≤ℤ b → up a + down b ≤ up b + down a
le {a} {b} h = le_in a b h.le

le_back : (a b : ℤ) → up a + down b ≤ up b + down a → T (le_z a b)
le_back (pos a) (pos b) h = le→leb a b (omega arith)
le_back (pos a) (negsuc b) h = let z : suc b + a ≤ 0 = omega arith in absurd (omega arith)
le_back (negsuc a) (pos b) h = tt
le_back (negsuc a) (negsuc b) h = le→leb b a (omega arith)

pub to_le : {a b : ℤ} → up a + down b ≤ up b + down a → a ≤ℤ b
to_le {a} {b} h = record { le = le_back a b h }

lt_in : (a b : ℤ) → T (lt_z a b) → up a + down b < up b + down a
lt_in (pos a) (pos b) h = omega (arith, ltb→lt a b h)
lt_in (pos a) (negsuc b) h = absurd h
lt_in (negsuc a) (pos b) h = omega arith
lt_in (negsuc a) (negsuc b) h = omega (arith, ltb→lt b a h)

pub lt : {a b : ℤ} → a <ℤ b → up a + down b < up b + down a
lt {a} {b} h = lt_in a b h.lt

lt_back : (a b : ℤ) → up a + down b < up b + down a → T (lt_z a b)
lt_back (pos a) (pos b) h = lt→ltb a b (omega arith)
lt_back (pos a) (negsuc b) h = absurd (omega arith)
lt_back (negsuc a) (pos b) h = tt
lt_back (negsuc a) (negsuc b) h = lt→ltb b a (omega arith)

pub to_lt : {a b : ℤ} → up a + down b < up b + down a → a <ℤ b
to_lt {a} {b} h = record { lt = lt_back a b h }

sub_by : (m n : ℕ) (b : Bool) → ltb m n ≡ b → up (cond b (negsuc (n - suc m)) (pos (m - n))) + n ≡ down (cond b (negsuc (n - suc m)) (pos (m - n))) + m
sub_by m n true e = omega (arith, ltb→lt m n (rw e tt))
sub_by m n false e = omega (arith, nltb→le m n (rw e tt))

sub : (m n : ℕ) → up (sub_ℕ m n) + n ≡ down (sub_ℕ m n) + m
sub m n = sub_by m n (ltb m n) refl

pub add : (a b : ℤ) → up (a +ℤ b) + down a + down b ≡ down (a +ℤ b) + up a + up b
add (pos m) (pos n) = omega arith
add (pos m) (negsuc n) = omega (arith, sub m (suc n))
add (negsuc m) (pos n) = omega (arith, sub n (suc m))
add (negsuc m) (negsuc n) = omega arith

pub up_neg : (a : ℤ) → up (neg_ℤ a) ≡ down a
up_neg (pos zero) = refl
up_neg (pos (suc n)) = refl
up_neg (negsuc n) = refl

pub down_neg : (a : ℤ) → down (neg_ℤ a) ≡ up a
down_neg (pos zero) = refl
down_neg (pos (suc n)) = refl
down_neg (negsuc n) = refl

pub minus : (a b : ℤ) → up (a -ℤ b) + down a + up b ≡ down (a -ℤ b) + up a + down b
minus a b = omega (arith, add a (neg_ℤ b), up_neg b, down_neg b)

-- the size of a number is the sum of its parts
pub parts : (a : ℤ) → nat_abs a ≡ up a + down a
parts (pos n) = omega arith
parts (negsuc n) = omega arith

-- a number that is not above zero has no part above
pub no_up : {a : ℤ} → a ≤ℤ pos 0 → up a ≡ 0
no_up {a = pos n} h = omega (arith, le h)
no_up {a = negsuc n} h = refl

-- a sum is no larger than its parts together
sub_abs_by : (m n : ℕ) (b : Bool) → ltb m n ≡ b → nat_abs (cond b (negsuc (n - suc m)) (pos (m - n))) ≤ m + n
sub_abs_by m n true e = omega (arith, ltb→lt m n (rw e tt))
sub_abs_by m n false e = omega arith

pub abs_add : (a b : ℤ) → nat_abs (a +ℤ b) ≤ nat_abs a + nat_abs b
abs_add (pos m) (pos n) = omega arith
abs_add (pos m) (negsuc n) = sub_abs_by m (suc n) (ltb m (suc n)) refl
abs_add (negsuc m) (pos n) = omega (arith, sub_abs_by n (suc m) (ltb n (suc m)) refl)
abs_add (negsuc m) (negsuc n) = omega arith

pub mag_abs : (a : ℤ) → mag a ≤ nat_abs a
mag_abs (pos n) = omega arith
mag_abs (negsuc n) = omega arith

-- Two numbers of which neither is above the other are one.
pub between : (a b : ℤ) → up a + down b ≤ up b + down a → up b + down a ≤ up a + down b → a ≡ b
between (pos a) (pos b) h k = ap pos (omega arith)
between (pos a) (negsuc b) h k = absurd (omega arith)
between (negsuc a) (pos b) h k = absurd (omega arith)
between (negsuc a) (negsuc b) h k = ap negsuc (omega arith)

pub equal : {a b : ℤ} → a ≤ℤ b → b ≤ℤ a → a ≡ b
equal {a} {b} h k = between a b (le h) (le k)
