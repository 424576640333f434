-- The least number is one, and a search in other words. Assumes nothing.
use Prim.Native.Nat.{ℕ, ◌≤◌, ◌<◌}
use mathlib.Core.Logic.{⊎_elim}
use native.Mathlib.Omega.{arith}
use Rattle.basics.proofs.Splits.{lt_or_ge}
use Rattle.std.specs.Prelude.{Option, Some, None}
use Rattle.offsets.specs.Search.{Searches}
use Rattle.offsets.specs.Theorems.{LeastIsOne}

pub least_is_one : LeastIsOne
least_is_one P limit from a b p q =
    ⊎_elim
    (λ (l : a < b). absurd (q.least a p.above l p.has))
    (λ (l : b ≤ a). ⊎_elim (λ (m : b < a). absurd (p.least b q.above m q.has)) (λ (m : a ≤ b). omega arith) (lt_or_ge b a))
    (lt_or_ge a b)

-- The same search in other words.
pub searches_in_words : (P Q : ℕ → Type 0) (limit from : ℕ) → ((x : ℕ) → P x → Q x) → ((x : ℕ) → Q x → P x) → (r : Option ℕ)
    → Searches P limit from r → Searches Q limit from r
searches_in_words P Q limit from to back (Some x) h = record {
  above = h.above;
  below = h.below;
  has = to x h.has;
  least = λ z f l q. h.least z f l (back z q);
}
searches_in_words P Q limit from to back None h = λ z f l q. h z f l (back z q)
