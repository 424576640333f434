-- Gate lists at numbers: a list is right where each of its pairs is, one behind the other. Assumes nothing.
use Prim.Native.Nat.{ℕ, zero, suc, ◌+◌, ◌*◌, ◌≤◌, ◌<◌}
use mathlib.Core.Path.{◌≡◌, sym, ◌∙◌, ap}
use mathlib.Core.List.{List, ◌∷◌}
use lib.ListN.{get_or}
use native.Mathlib.Numerals.{add-one}
use native.Mathlib.Omega.{arith}
use Rattle.gates.specs.Pairs.{mask_of, duration_of, begin_of, ListRight}
use Rattle.gates.proofs.Begins.{begin_none, begin_next}

-- The first n pairs in words are right where the first begins at instant x, and they end at an instant.
pub record RightFrom (R : ℕ → ℕ → Type 0) (x : ℕ) (words : List ℕ) (n end : ℕ) : Type 0 where
  pub lasts : (i : ℕ) → i < n → 1 ≤ duration_of words i
  pub differ : (i : ℕ) → i + 1 < n → mask_of words i ≡ mask_of words (i + 1) → ⊥
  pub right : (i y : ℕ) → i < n → x + begin_of words i ≤ y → y < x + begin_of words i + duration_of words i → R y (mask_of words i)
  pub ends : x + begin_of words n ≡ end

module _ {R : ℕ → ℕ → Type 0} where
  pub no_pairs : (x : ℕ) (words : List ℕ) → RightFrom R x words 0 x
  no_pairs x words = record {
    lasts = λ i h. absurd (omega arith);
    differ = λ i h. absurd (omega arith);
    right = λ i y h. absurd (omega arith);
    ends = omega (arith, begin_none words);
  }

  pub from_start : {words : List ℕ} {n end : ℕ} → RightFrom R 0 words n end → ListRight R end words n
  from_start r = record {
    pairs = record { lasts = r.lasts; differ = r.differ; right = λ i y h s. r.right i y h (omega (arith, s.begun)) (omega (arith, s.not_ended)) };
    adds_up = omega (arith, r.ends);
  }

-- A pair in front of others.
module _ (mask duration : ℕ) (words : List ℕ) where
  abbrev more : List ℕ
  more = mask ∷ duration ∷ words

  mask_behind : (i : ℕ) → mask_of more (suc i) ≡ mask_of words i
  mask_behind i = let e : 2 * suc i ≡ suc (suc (2 * i)) = omega arith in ap (λ (k : ℕ). get_or more k 0) e

  duration_behind : (i : ℕ) → duration_of more (suc i) ≡ duration_of words i
  duration_behind i = let e : 2 * suc i + 1 ≡ suc (suc (2 * i + 1)) = omega arith in ap (λ (k : ℕ). get_or more k 0) e

  begin_behind : (i : ℕ) → begin_of more (suc i) ≡ duration + begin_of words i
  begin_behind zero = omega (arith, begin_none words, begin_none more, begin_next more 0)
  begin_behind (suc i) =
      omega (arith, begin_behind i, duration_behind i, rw (add-one (suc i)) at (begin_next more (suc i)), rw (add-one i) at (begin_next words i))

  module _ (R : ℕ → ℕ → Type 0) (x n end : ℕ) (some : 1 ≤ duration) (here : (y : ℕ) → x ≤ y → y < x + duration → R y mask) (next : 1 ≤ n → mask ≡ mask_of words 0 → ⊥)
      (rest : RightFrom R (x + duration) words n end) where
    lasts : (i : ℕ) → i < n + 1 → 1 ≤ duration_of more i
    lasts zero h = some
    lasts (suc i) h = rw (duration_behind i) (rest.lasts i (omega arith))

    differ : (i : ℕ) → i + 1 < n + 1 → mask_of more i ≡ mask_of more (i + 1) → ⊥
    differ zero h e = next (omega arith) e
    differ (suc i) h e = rest.differ i (omega arith) (sym (mask_behind i) ∙ e ∙ ap (mask_of more) (add-one (suc i)) ∙ mask_behind (suc i) ∙ ap (mask_of words) (sym (add-one i)))

    right : (i y : ℕ) → i < n + 1 → x + begin_of more i ≤ y → y < x + begin_of more i + duration_of more i → R y (mask_of more i)
    right zero y h from to = here y (omega arith) (omega (arith, begin_none more))
    right (suc i) y h from to =
        let b = begin_behind i in
        let d = duration_behind i in
        rw (mask_behind i) (rest.right i y (omega arith) (omega arith) (omega arith))

    all : RightFrom R x more (n + 1) end
    all = record { lasts = lasts; differ = differ; right = right; ends = omega (arith, rest.ends, begin_behind n, ap (begin_of more) (add-one n)) }

pub in_front : {R : ℕ → ℕ → Type 0} {x end mask duration : ℕ} {words : List ℕ} (n : ℕ) → 1 ≤ duration → ((y : ℕ) → x ≤ y → y < x + duration → R y mask)
    → (1 ≤ n → mask ≡ mask_of words 0 → ⊥) → RightFrom R (x + duration) words n end → RightFrom R x (mask ∷ duration ∷ words) (n + 1) end
in_front {R} {x} {end} {mask} {duration} {words} n some here next rest = all mask duration words R x n end some here next rest
