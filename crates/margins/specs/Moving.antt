-- A leg of a table, with its frame.
use Rattle.std.specs.Prelude.{ℕ, List}
use Rattle.shape.specs.Shape.{WellFormedTable}
use Rattle.rules.specs.Steps.{LegIn, FrameOf}
use Rattle.rules.specs.declared.Frame.{Frame}

-- Leg a of a well-formed table, with its frame.
pub record Moving (t : List ℕ) (a : ℕ) (f : Frame) : Type 0 where
  pub shape : WellFormedTable t
  pub leg : LegIn t a
  pub frame : FrameOf t a f

-- What is seen of a leg: its table, its number, and its frame.
pub record LegSeen : Type 0 where
  pub table : List ℕ
  pub at : ℕ
  pub frame : Frame
