-- A mark set is a mark less that is missing. Assumes nothing.
use mathlib.Core.Path.{◌≡◌, refl, sym, ap, ◌∙◌}
use mathlib.Core.Bool.{true, false}
use mathlib.Core.List.{List}
use mathlib.Core.Logic.{⊎_elim}
use Prim.Native.Nat.{ℕ, zero, suc, ◌+◌, ◌<◌}
use native.Mathlib.Omega.{arith}
use lib.Dec.{eqb}
use lib.ListN.{length, get_or, set, replicate}
use lib.Seq.{get_or-set_same, get_or-set_other}
use borrow.Author.Tests.{eq-eqb, ne_eqb}
use Rattle.basics.proofs.Splits.{eq_or_ne}
use Rattle.network.specs.Marks.{Put, unseen}

-- A list with one element set, and one of equal elements.
pub put : {A : Type 0} (l : List A) (j : ℕ) (x d : A) → j < length l → Put (λ v. get_or l v d) j x (λ v. get_or (set l j x) v d)
put l j x d h = record { here = get_or-set_same l j x d h; there = λ v ne. get_or-set_other l j v x d ne }

pub all : {A : Type 0} (m v : ℕ) (x : A) → get_or (replicate m x) v x ≡ x
all zero v x = refl
all (suc m) zero x = refl
all (suc m) (suc v) x = all m v x

module _ (f g : ℕ → ℕ) where
  same_count : (n : ℕ) → ((v : ℕ) → v < n → g v ≡ f v) → unseen g n ≡ unseen f n
  unfolding unseen
  same_count zero h = refl
  same_count (suc n) h = rw (h n (omega arith), same_count n (λ v z. h v (omega arith)))

  -- one more is seen
  pub one_less : (n x y : ℕ) → x < n → f x ≡ 0 → Put f x (suc y) g → unseen g n + 1 ≡ unseen f n
  unfolding unseen
  one_less zero x y q e p = absurd (omega arith)
  one_less (suc n) x y q e p =
      ⊎_elim
      (λ r.
      let a : eqb (f n) 0 ≡ true = eq-eqb (f n) 0 (ap f (sym r) ∙ e)
      in let b : eqb (g n) 0 ≡ false = ne_eqb (g n) 0 (λ z. omega (arith, ap g r, p.here))
      in let d : unseen g n ≡ unseen f n = same_count n (λ v z. p.there v (λ y. omega arith))
      in rw (a, b) (omega arith))
      (λ r. rw (p.there n (λ z. r (sym z))) (omega (arith, one_less n x y (omega arith) e p)))
      (eq_or_ne x n)

  pub none_seen : (n : ℕ) → ((v : ℕ) → v < n → f v ≡ 0) → unseen f n ≡ n
  unfolding unseen
  none_seen zero h = refl
  none_seen (suc n) h =
      let a : eqb (f n) 0 ≡ true = eq-eqb (f n) 0 (h n (omega arith))
      in rw a (omega (arith, none_seen n (λ v z. h v (omega arith))))
