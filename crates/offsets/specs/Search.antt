-- The least number below a limit that has a property, where the search begins at a number `from`.
use Rattle.std.specs.Prelude.{ℕ, ◌≤◌, ◌<◌, Option, Some, None}

-- No number from `from` up to but without `to` has P.
abbrev pub NoneFrom : (ℕ → Type 0) → ℕ → ℕ → Type 0
NoneFrom P from to = (z : ℕ) → from ≤ z → z < to → P z → ⊥

-- x is the least number from `from` on and below the limit that has P.
pub record LeastFrom (P : ℕ → Type 0) (limit from x : ℕ) : Type 0 where
  pub above : from ≤ x
  pub below : x < limit
  pub has : P x
  pub least : NoneFrom P from x

-- The whole answer: the least number, or that there is none.
abbrev pub Searches : (ℕ → Type 0) → ℕ → ℕ → Option ℕ → Type 0
Searches P limit from (Some x) = LeastFrom P limit from x
Searches P limit from None = NoneFrom P from limit
