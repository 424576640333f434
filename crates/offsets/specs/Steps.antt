-- Steps of the search, for its inner functions.
use Rattle.std.specs.Prelude.{ℕ, ◌+◌, ◌≤◌, ◌<◌, ◌≡◌}
use Rattle.offsets.specs.declared.Condition.{Condition}
use Rattle.offsets.specs.Conditions.{Allows}
use Rattle.offsets.specs.Search.{NoneFrom}

-- From x the search may go on at y: nothing from x up to but without y has P.
pub record Passes (P : ℕ → Type 0) (limit x y : ℕ) : Type 0 where
  pub up : x ≤ y
  pub to : y ≤ limit
  pub none : NoneFrom P x y

-- And where y is x itself, below the limit, x has P.
pub record Skips (P : ℕ → Type 0) (limit x y : ℕ) : Type 0 where
  pub passes : Passes P limit x y
  pub stays : y ≡ x → x < limit → P x

-- The next w numbers from x on, at least one, are not allowed, if any number is.
pub record Waits (q : Condition) (x w : ℕ) : Type 0 where
  pub some : 1 ≤ w
  pub none : q.before + q.after ≤ q.modulus → NoneFrom (Allows q) x (x + w)
