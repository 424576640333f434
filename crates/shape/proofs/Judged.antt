-- What is due after the links is a fault of the table. Assumes nothing.
use Prim.Native.Nat.{ℕ}
use mathlib.Core.List.{List}
use mathlib.Core.Logic.{inr}
use Rattle.basics.specs.Refusals.{unless_at, lowest, ◌then◌}
use Rattle.basics.specs.declared.Cause.{Cause}
use Rattle.basics.specs.declared.Cause.TheVariants as cause
use Rattle.table.specs.Layout.{stream_count, leg_count}
use Rattle.shape.specs.Streams.{StreamRight}
use Rattle.shape.specs.Legs.{LegRight}
use Rattle.shape.specs.Shape.{CountsAddUp, ShapeFault}
use Rattle.shape.specs.Steps.{LinksPassed}

-- 6 and 7: what is due after the links, and that it is a fault of the table.
abbrev pub AfterLinks : List ℕ → Cause → ℕ → Type 0
AfterLinks t k p =
    (lowest cause.BadStream (StreamRight t) (stream_count t) then unless_at cause.BadStream (stream_count t) (CountsAddUp t) then lowest cause.BadLeg (LegRight t) (leg_count t)).Fault k p

pub past_links : (t : List ℕ) (k : Cause) (p : ℕ) → LinksPassed t → AfterLinks t k p → ShapeFault t k p
past_links t k p b f = inr (b.sized, inr (b.links, inr (b.new_links, f)))
