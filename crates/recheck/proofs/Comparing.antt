-- Two tables are compared in two parts, before the numbers of the leg and after them: where both are the same, the tables are the same but for the leg, and where
-- one is not, they are not. Assumes nothing.
use Prim.Native.Nat.{ℕ, ◌+◌, ◌-◌, ◌≤◌, ◌<◌}
use mathlib.Core.Path.{◌≡◌, ◌∙◌, sym, ap}
use mathlib.Core.Bool.{Bool, true, false, true≢false}
use mathlib.Core.List.{List}
use mathlib.Core.Logic.{⊎_elim}
use lib.Dec.{eqb}
use lib.ListN.{length, get_or, take, drop, length-drop}
use lib.Pointwise.{pointwise, bytes_decides}
use lib.Seq.{get_or-take, get_or-drop, length-take-le, take-length, ext_get_or}
use native.Mathlib.Omega.{arith}
use Rattle.basics.proofs.Splits.{lt_or_ge}
use Rattle.table.specs.Layout.{leg_words, leg_count, Sized}
use Rattle.table.specs.Records.{offset_at}
use Rattle.table.proofs.SameWords.{word_inside}
use Rattle.recheck.specs.Premise.{SameButLeg}

-- A word of the part before the offset.
front_word : (t : List ℕ) (o k : ℕ) → k < o - 1 → get_or (take (o - 1) (drop 1 t)) k 0 ≡ get_or t (1 + k) 0
front_word t o k h = get_or-take (o - 1) (drop 1 t) k 0 h ∙ get_or-drop 1 t k 0

front_long : (x : List ℕ) (o : ℕ) → o ≤ length x → length (take (o - 1) (drop 1 x)) ≡ o - 1
front_long x o b = length-take-le (o - 1) (drop 1 x) (omega (arith, b, length-drop 1 x))

-- The part after the leg's numbers is all that follows.
back_whole : (x : List ℕ) (o : ℕ) → take (length x - (o + 2)) (drop (o + 2) x) ≡ drop (o + 2) x
back_whole x o = ap (λ (n : ℕ). take n (drop (o + 2) x)) (sym (length-drop (o + 2) x)) ∙ take-length (drop (o + 2) x)

offset_inside : {t : List ℕ} {m : ℕ} → Sized t → m < leg_count t → offset_at t m + 2 ≤ length t
offset_inside {t} {m} s l = omega (arith, s.exact, word_inside leg_words (leg_count t) m 3 l (omega arith))

module _ {t u : List ℕ} {m o : ℕ} (s : Sized t) (l : m < leg_count t) (long : length t ≡ length u) (is : o ≡ offset_at t m) where
  same_front : SameButLeg t u m → take (o - 1) (drop 1 t) ≡ take (o - 1) (drop 1 u)
  same_front d =
      ext_get_or 0 _ _ (front_long t o (omega (arith, is, offset_inside s l)) ∙ sym (front_long u o (omega (arith, is, long, offset_inside s l))))
      (λ k h.
      let b : k < o - 1 = omega (arith, h, front_long t o (omega (arith, is, offset_inside s l))) in
      front_word t o k b
      ∙ d.words (1 + k) (omega (arith, is, offset_inside s l, b)) (λ e. omega (arith, e)) (λ e. omega (arith, e, is, b)) (λ e. omega (arith, e, is, b))
      ∙ sym (front_word u o k b))

  same_back : SameButLeg t u m → drop (o + 2) t ≡ drop (o + 2) u
  same_back d =
      ext_get_or 0 _ _ (length-drop (o + 2) t ∙ ap (λ (n : ℕ). n - (o + 2)) long ∙ sym (length-drop (o + 2) u))
      (λ k h.
      let b : o + 2 + k < length t = omega (arith, h, length-drop (o + 2) t) in
      get_or-drop (o + 2) t k 0
      ∙ d.words (o + 2 + k) b (λ e. omega (arith, e)) (λ e. omega (arith, e, is)) (λ e. omega (arith, e, is))
      ∙ sym (get_or-drop (o + 2) u k 0))

  same_parts : take (o - 1) (drop 1 t) ≡ take (o - 1) (drop 1 u) → drop (o + 2) t ≡ drop (o + 2) u → SameButLeg t u m
  same_parts front back = record {
    long = long;
    words = λ i h r f p. ⊎_elim
        (λ (b : i < o).
        let k : i - 1 < o - 1 = omega (arith, b, r) in
        let e : 1 + (i - 1) ≡ i = omega (arith, r) in
        rw e at (sym (front_word t o (i - 1) k) ∙ ap (λ (x : List ℕ). get_or x (i - 1) 0) front ∙ front_word u o (i - 1) k))
        (λ (b : o ≤ i).
        let e : o + 2 + (i - (o + 2)) ≡ i = omega (arith, b, f, p, is) in
        rw e at (sym (get_or-drop (o + 2) t (i - (o + 2)) 0) ∙ ap (λ (x : List ℕ). get_or x (i - (o + 2)) 0) back ∙ get_or-drop (o + 2) u (i - (o + 2)) 0))
        (lt_or_ge i o);
  }

  -- What the comparison of the first part tells where it fails, and that of the second where the first does not. The first part is n words long.
  pub told_front : (q : Bool) {n : ℕ} → q ≡ pointwise eqb (take n (drop 1 t)) (take n (drop 1 u)) → n ≡ o - 1 → q ≡ false → (q ≡ true → SameButLeg t u m) × (SameButLeg t u m → q ≡ true)
  told_front q {n} e h f = ((λ y. absurd (true≢false (sym y ∙ f))), λ d. e ∙ (bytes_decides _ _).1 (ap (λ (x : ℕ). take x (drop 1 t)) h ∙ same_front d ∙ ap (λ (x : ℕ). take x (drop 1 u)) (sym h)))

  pub told_back : (q r : Bool) {n : ℕ} → q ≡ pointwise eqb (take n (drop 1 t)) (take n (drop 1 u)) → n ≡ o - 1 → q ≡ true → r ≡ pointwise eqb (take (length t - (o + 2)) (drop (o + 2) t)) (take (length u - (o + 2)) (drop (o + 2) u))
      → (r ≡ true → SameButLeg t u m) × (SameButLeg t u m → r ≡ true)
  told_back q r {n} e h y k =
      let front : take (o - 1) (drop 1 t) ≡ take (o - 1) (drop 1 u) = ap (λ (x : ℕ). take x (drop 1 t)) (sym h) ∙ (bytes_decides _ _).0 (sym e ∙ y) ∙ ap (λ (x : ℕ). take x (drop 1 u)) h in
      ((λ z. same_parts front (sym (back_whole t o) ∙ (bytes_decides _ _).0 (sym k ∙ z) ∙ back_whole u o)), λ d. k ∙ (bytes_decides _ _).1 (back_whole t o ∙ same_back d ∙ sym (back_whole u o)))
