-- What the inner functions of this crate tell.
use Rattle.std.specs.Prelude.{ℕ, ◌<◌, ◌≡◌, List}
use Rattle.table.specs.Layout.{leg_count}
use Rattle.shape.specs.Shape.{WellFormedTable}
use Rattle.rules.specs.declared.Asked.{Asked}
use Rattle.margins.specs.Moving.{LegSeen}
use Rattle.margins.specs.Margins.{AskedMargin, MarginOf}
use Rattle.margins.specs.Spares.{LessThanATurn}
use Rattle.margins.specs.declared.Margin.{Margin}

-- The numbers at what is asked, and at a place.
pub record AskedTold (t : List ℕ) (a : ℕ) (q : Asked) (m : Margin) : Type 0 where
  pub numbers : AskedMargin t a q m
  pub turn : LessThanATurn m

pub record MarginTold (t : List ℕ) (a p : ℕ) (m : Margin) : Type 0 where
  pub numbers : MarginOf t a p m
  pub turn : LessThanATurn m

-- Leg a of a well-formed table is there, and is what is seen.
pub record LegThere (t : List ℕ) (a : ℕ) : Type 0 where
  pub shape : WellFormedTable t
  pub leg : a < leg_count t

pub record IsLeg (t : List ℕ) (a : ℕ) (l : LegSeen) : Type 0 where
  pub table : l.table ≡ t
  pub at : l.at ≡ a
