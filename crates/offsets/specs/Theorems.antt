-- What is proved of the search.
use Rattle.std.specs.Prelude.{ℕ, ◌≡◌}
use Rattle.offsets.specs.Search.{LeastFrom}

-- The least number is one.
abbrev pub LeastIsOne : Type 1
LeastIsOne = (P : ℕ → Type 0) (limit from a b : ℕ) → LeastFrom P limit from a → LeastFrom P limit from b → a ≡ b
