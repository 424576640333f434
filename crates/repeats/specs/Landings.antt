-- Steps of one length round a circle, for the inner functions: when one first lands in a stretch of the circle.
use Rattle.std.specs.Prelude.{ℕ, ◌+◌, ◌*◌, ◌≤◌, ◌<◌, Option, Some, None}
use Rattle.repeats.specs.declared.landing.Landing.{Landing}

-- The longest period that a slot may have for the code to compute with it: 1 s.
abbrev pub longest_period : ℕ
longest_period = 1000000000

-- After n steps and y whole turns round the circle the place is at least `from` and at most `to`.
pub record Lands (step around from to n y : ℕ) : Type 0 where
  pub low : around * y + from ≤ step * n
  pub high : step * n ≤ around * y + to

-- No fewer steps land there; and they are fewer than the circle is long.
pub record IsFirstLanding (step around from to n y : ℕ) : Type 0 where
  pub lands : Lands step around from to n y
  pub least : (k z : ℕ) → Lands step around from to k z → n ≤ k
  pub few : n < around

-- The first landing, or that there is none.
abbrev pub LandsFirst : ℕ → ℕ → ℕ → ℕ → Option Landing → Type 0
LandsFirst step around from to (Some l) = IsFirstLanding step around from to l.steps l.turns
LandsFirst step around from to None = (k z : ℕ) → Lands step around from to k z → ⊥

-- n steps reach the place `from`, and one step less does not.
pub record Nearest (step from n : ℕ) : Type 0 where
  pub reached : from ≤ step * n
  pub barely : step * n < from + step

-- A stretch of the circle that does not reach its beginning, and lengths with which the code computes.
pub record Stretch (step around from to : ℕ) : Type 0 where
  pub after_start : 1 ≤ from
  pub ordered : from ≤ to
  pub inside : to < around
  pub around_to : around ≤ longest_period
  pub step_to : step ≤ longest_period
