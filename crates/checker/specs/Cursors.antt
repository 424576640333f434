-- Cursors, and the refusals 8 and 9 (document 01, "Places and slices" and "Numbered refusals").
use Rattle.std.specs.Prelude.{ℕ, ◌≡◌, List}
use Rattle.basics.specs.Refusals.{Refusals, unless, ◌then◌, ◌called◌}
use Rattle.basics.specs.declared.Cause.{Cause}
use Rattle.basics.specs.declared.Cause.TheVariants as cause
use Rattle.table.specs.Layout.{revision_of}
use Rattle.shape.specs.Shape.{WellFormedTable, shape_refusals}
use Rattle.files.specs.declared.Cursor.{Cursor}
use Rattle.places.specs.Order.{rank, PlaceOrEnd}

-- How many places come before a cursor's.
abbrev pub cursor_rank : Cursor → ℕ
cursor_rank c = rank c.leg c.place

-- A cursor of the table's revision, at a place or at the end of a well-formed table.
pub record CursorRight (t : List ℕ) (c : Cursor) : Type 0 where
  pub shape : WellFormedTable t
  pub revision : c.revision ≡ revision_of t
  pub stands : PlaceOrEnd t c.leg c.place

-- The refusals in their order: 1 to 7; then 8, the cursor's revision is not the table's; then 9, the cursor is no place and not the end.
abbrev pub cursor_refusals : List ℕ → Cursor → Refusals
cursor_refusals t c =
    shape_refusals t
    then unless cause.StaleCursor (c.revision ≡ revision_of t)
    then unless cause.NoPlace (PlaceOrEnd t c.leg c.place)
    called CursorRight t c

-- The first refusal that is due is for k at p.
abbrev pub CursorFault : List ℕ → Cursor → Cause → ℕ → Type 0
CursorFault t c k p = (cursor_refusals t c).Fault k p
