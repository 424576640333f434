-- Gate lists in words: a mask, a duration in ns, the next mask, its duration and so on, from instant 0 on (document 02, L7). R says which mask is right at which instant.
use Rattle.std.specs.Prelude.{ℕ, zero, suc, ◌+◌, ◌*◌, ◌≤◌, ◌<◌, ◌≡◌, List, get_or}

-- The mask and the duration of pair i.
abbrev pub mask_of : List ℕ → ℕ → ℕ
mask_of words i = get_or words (2 * i) 0

abbrev pub duration_of : List ℕ → ℕ → ℕ
duration_of words i = get_or words (2 * i + 1) 0

-- The instant at which pair i begins: what the pairs before it last together.
unfoldable pub begin_of : List ℕ → ℕ → ℕ
begin_of words zero = 0
begin_of words (suc i) = begin_of words i + duration_of words i

-- Pair i shows at instant y.
pub record ShowsAt (words : List ℕ) (i y : ℕ) : Type 0 where
  pub begun : begin_of words i ≤ y
  pub not_ended : y < begin_of words i + duration_of words i

-- The first n pairs last at least 1 ns each, neighbours have different masks (the last and the first may be alike), and each has the right mask at every instant at which it
-- shows. Words behind them are not looked at.
pub record PairsRight (R : ℕ → ℕ → Type 0) (words : List ℕ) (n : ℕ) : Type 0 where
  pub lasts : (i : ℕ) → i < n → 1 ≤ duration_of words i
  pub differ : (i : ℕ) → i + 1 < n → mask_of words i ≡ mask_of words (i + 1) → ⊥
  pub right : (i y : ℕ) → i < n → ShowsAt words i y → R y (mask_of words i)

-- They are the list for a cycle: they add up to it.
pub record ListRight (R : ℕ → ℕ → Type 0) (cycle : ℕ) (words : List ℕ) (n : ℕ) : Type 0 where
  pub pairs : PairsRight R words n
  pub adds_up : begin_of words n ≡ cycle

-- The longest cycle, in ns, and the most pairs of a list.
abbrev pub max_cycle : ℕ
max_cycle = 1000000000

abbrev pub max_pairs : ℕ
max_pairs = 1024
