-- Of which places of a table numbers are told, and the refusals 1 to 7 and 9.
use Rattle.std.specs.Prelude.{ℕ, List}
use Rattle.basics.specs.Refusals.{Refusals, unless, ◌then◌, ◌called◌}
use Rattle.basics.specs.declared.Cause.TheVariants as cause
use Rattle.shape.specs.Shape.{WellFormedTable, shape_refusals}
use Rattle.places.specs.Order.{IsPlace}

-- Of (a,p) it can be asked: the table is well-formed and has that place. The end is no place.
pub record CanAsk (t : List ℕ) (a p : ℕ) : Type 0 where
  pub shape : WellFormedTable t
  pub place : IsPlace t a p

-- The refusals in their order: 1 to 7, then 9.
abbrev pub ask_refusals : List ℕ → ℕ → ℕ → Refusals
ask_refusals t a p = shape_refusals t then unless cause.NoPlace (IsPlace t a p) called CanAsk t a p
