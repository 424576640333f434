-- What a start and a slice promise, by the cases of their answers (document 01, "Places and slices").
use Rattle.std.specs.Prelude.{ℕ, ◌+◌, ◌≤◌, ◌≡◌, List, Result, Ok, Err}
use Rattle.table.specs.Layout.{revision_of}
use Rattle.shape.specs.Shape.{WellFormedTable, ShapeFault}
use Rattle.files.specs.declared.Cursor.{Cursor}
use Rattle.files.specs.declared.Returned.{Returned}
use Rattle.rules.specs.Places.{rule_at, PlaceHolds}
use Rattle.rules.specs.declared.Rule.{Rule}
use Rattle.places.specs.Order.{IsPlace, IsEnd, HoldFrom}
use Rattle.checker.specs.Cursors.{cursor_rank, CursorRight, CursorFault}
use Rattle.checker.specs.declared.SliceAnswer.{SliceAnswer}
use Rattle.checker.specs.declared.SliceAnswer.TheVariants as answer

-- A start gives (table's revision, 0, 0); refused, it returns 0, 0, 0.
abbrev pub start_cursor : List ℕ → Cursor
start_cursor t = record { revision = revision_of t; leg = 0; place = 0 }

abbrev pub no_cursor : Cursor
no_cursor = record { revision = 0; leg = 0; place = 0 }

abbrev pub Starts : List ℕ → Result Cursor Returned → Type 0
Starts t (Ok d) = WellFormedTable t × (d ≡ start_cursor t)
Starts t (Err e) = ShapeFault t e.refusal.cause e.refusal.at × (e.cursor ≡ no_cursor)

-- The steps between two cursors: so many places lie from c on and before d.
abbrev pub StepsBetween : Cursor → Cursor → ℕ → Type 0
StepsBetween c d n = cursor_rank c + n ≡ cursor_rank d

-- A slice went from c to d past n places, and all of them hold.
pub record Went (t : List ℕ) (c d : Cursor) (n : ℕ) : Type 0 where
  pub revision : d.revision ≡ revision_of t
  pub steps : StepsBetween c d n
  pub held : HoldFrom t (cursor_rank c) (cursor_rank d)

-- Violated: the cursor d stays at the violated place, r is its rule, and n is one more than the steps between c and d.
pub record Violates (t : List ℕ) (c : Cursor) (budget : ℕ) (d : Cursor) (n : ℕ) (r : Rule) : Type 0 where
  pub passed : ℕ
  pub went : Went t c d passed
  pub steps : n ≡ passed + 1
  pub place : IsPlace t d.leg d.place
  pub broken : PlaceHolds t d.leg d.place → ⊥
  pub rule : r ≡ rule_at d.place
  pub within : n ≤ budget

-- Nothing violated from here on: d is the end cursor.
pub record Ends (t : List ℕ) (c : Cursor) (budget : ℕ) (d : Cursor) (n : ℕ) : Type 0 where
  pub went : Went t c d n
  pub end : IsEnd t d.leg d.place
  pub within : n ≤ budget

-- Paused: d is the cursor of the first place not looked at, and the budget is used up.
pub record Pauses (t : List ℕ) (c : Cursor) (budget : ℕ) (d : Cursor) (n : ℕ) : Type 0 where
  pub went : Went t c d n
  pub place : IsPlace t d.leg d.place
  pub used : n ≡ budget

-- A slice of table t from cursor c with a budget: one of four things.
abbrev pub Slices : List ℕ → Cursor → ℕ → SliceAnswer → Type 0
Slices t c budget (answer.Violated d n r) = CursorRight t c × Violates t c budget d n r
Slices t c budget (answer.NothingViolated d n) = CursorRight t c × Ends t c budget d n
Slices t c budget (answer.Paused d n) = CursorRight t c × Pauses t c budget d n
Slices t c budget (answer.Refused e d) = CursorFault t c e.cause e.at × (d ≡ c)
