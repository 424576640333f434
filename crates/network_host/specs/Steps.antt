-- What the numbers of an answer may be, so that 32 bits hold them.
use Rattle.std.specs.Prelude.{ℕ, ◌≤◌, Bool, true, false, Option, Some, None, Result, Ok, Err}
use Rattle.basics.specs.Cause.{number_of}
use Rattle.basics.specs.declared.Refusal.{Refusal}
use Rattle.network.specs.Constraints.{max_constraints}

-- A refusal's number and position.
pub record Small (k p : ℕ) : Type 0 where
  pub number : k ≤ 27
  pub position : p ≤ max_constraints

-- A chain's length, or the number of a constraint that is not kept.
abbrev pub NumberSmall : Result (Option ℕ) Refusal → Type 0
NumberSmall (Ok None) = 0 ≤ max_constraints
NumberSmall (Ok (Some k)) = k ≤ max_constraints
NumberSmall (Err e) = Small (number_of e.cause) e.at

abbrev pub ChainSmall : Result Bool Refusal → Type 0
ChainSmall (Ok true) = 0 ≤ max_constraints
ChainSmall (Ok false) = 0 ≤ max_constraints
ChainSmall (Err e) = Small (number_of e.cause) e.at
