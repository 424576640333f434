-- When a recheck speaks for the whole table (document 02, L6): the table before the move was accepted.
use Rattle.std.specs.Prelude.{ℕ, ◌≤◌, ◌<◌, ◌≡◌, List, length, get_or}
use Rattle.table.specs.Records.{revision_at, offset_at, periods_at, moved, move_to}
use Rattle.shape.specs.Streams.{max_periods}
use Rattle.rules.specs.Rules.{RulesHold}

-- THE PREMISE: there are an offset and a period word for leg m with which the rules hold of table t, for instance those that it had before it was moved. (The revision plays no part.)
pub record WasAccepted (t : List ℕ) (m : ℕ) : Type 0 where
  pub offset : ℕ
  pub periods : ℕ
  pub at_most : periods ≤ max_periods
  pub rules : RulesHold (moved t (move_to m offset periods))

-- t and u are the same but for leg m: they differ at most in the revision and in the offset and the period word of that leg.
pub record SameButLeg (t u : List ℕ) (m : ℕ) : Type 0 where
  pub long : length t ≡ length u
  pub words : (i : ℕ) → i < length t → (i ≡ revision_at → ⊥) → (i ≡ offset_at t m → ⊥) → (i ≡ periods_at t m → ⊥) → get_or t i 0 ≡ get_or u i 0
