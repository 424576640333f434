-- The bytes of words as the checker computes them, for files at numbers, and words that stand in front of literal bytes. Assumes nothing.
use Prim.Native.Nat.{ℕ, zero, suc, ◌+◌, ◌/◌, ◌%◌, ◌≤◌}
use mathlib.Core.Path.{◌≡◌, refl, ◌∙◌, sym, ap}
use mathlib.Core.List.{List, [], ◌∷◌, ◌++◌}
use lib.ListN.{length}
use lib.Dec.{ltb}
use native.Mathlib.Omega.{arith}
use Rattle.basics.specs.Pick.{pick}
use Rattle.numbers.specs.Number.{max_word, group_values, max_go_on, groups_of, bytes_of}
use Rattle.numbers.specs.Series.{AllWords, file_of, Row}

abbrev groups : ℕ → ℕ → List ℕ
groups zero x = x ∷ []
groups (suc n) x = pick (ltb x group_values) (x ∷ []) ((group_values + x % group_values) ∷ groups n (x / group_values))

groups_is : (n x : ℕ) → groups_of n x ≡ groups n x
unfolding groups_of
groups_is zero x = refl
groups_is (suc n) x = ap (λ (gs : List ℕ). pick (ltb x group_values) (x ∷ []) ((group_values + x % group_values) ∷ gs)) (groups_is n (x / group_values))

abbrev pub file_bytes : List ℕ → List ℕ
file_bytes [] = []
file_bytes (w ∷ ws) = groups max_go_on w ++ file_bytes ws

pub file_is : (ws : List ℕ) → file_of ws ≡ file_bytes ws
unfolding file_of bytes_of
file_is [] = refl
file_is (w ∷ ws) = ap (λ (bs : List ℕ). bs ++ file_of ws) (groups_is max_go_on w) ∙ ap (λ (bs : List ℕ). groups max_go_on w ++ bs) (file_is ws)

-- Small numbers are words.
abbrev pub total : List ℕ → ℕ
total [] = 0
total (w ∷ ws) = w + total ws

pub small_words : (ws : List ℕ) → total ws ≤ max_word → AllWords ws
small_words [] h = tt
small_words (w ∷ ws) h = (omega arith, small_words ws (omega arith))

-- The words stand in front of other bytes.
pub row_in_front : (ws rest : List ℕ) → total ws ≤ max_word → Row (file_bytes ws ++ rest) 0 ws (length (file_bytes ws))
row_in_front ws rest h = record {
  words = small_words ws h;
  stands = record { rest = rest; there = ap (λ (bs : List ℕ). bs ++ rest) (sym (file_is ws)) };
  ends = omega (arith, ap length (file_is ws));
}
