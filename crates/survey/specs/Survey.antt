-- A survey: every violated place of a table, in order. It is made by slices alone: each goes on where the one before it paused, or right after the violated place that the one
-- before it found. Where a survey stands is no cursor of a check: before it there may be violated places.
use Rattle.std.specs.Prelude.{ℕ, ◌+◌, ◌≡◌, List, [], ◌∷◌}
use Rattle.files.specs.declared.Cursor.{Cursor}
use Rattle.places.specs.Order.{PlaceOrEnd}
use Rattle.checker.specs.Cursors.{cursor_rank}
use Rattle.checker.specs.Slices.{Slices}
use Rattle.checker.specs.declared.SliceAnswer.{SliceAnswer}
use Rattle.checker.specs.declared.SliceAnswer.TheVariants as answer
use Rattle.recheck.specs.Listed.{place_at}
use Rattle.recheck.specs.declared.Place.{Place}

-- e stands right after the place at which d stands: at the next place, or at the end after the last one.
pub record RightAfter (t : List ℕ) (d e : Cursor) : Type 0 where
  pub revision : e.revision ≡ d.revision
  pub stands : PlaceOrEnd t e.leg e.place
  pub next : cursor_rank e ≡ cursor_rank d + 1

-- A slice from c answers r, whatever its budget was.
pub record SomeSlice (t : List ℕ) (c : Cursor) (r : SliceAnswer) : Type 0 where
  pub budget : ℕ
  pub answers : Slices t c budget r

-- A SURVEY of table t from c on: the answers of its slices, one after the other. It is over when a slice finds nothing violated from where it stands on.
abbrev pub Surveys : List ℕ → Cursor → List SliceAnswer → Type 0
Surveys t c [] = ⊥
Surveys t c (answer.Violated d n r ∷ rest) = SomeSlice t c (answer.Violated d n r) × ((e : Cursor) × RightAfter t d e × Surveys t e rest)
Surveys t c (answer.NothingViolated d n ∷ rest) = SomeSlice t c (answer.NothingViolated d n) × (rest ≡ [])
Surveys t c (answer.Paused d n ∷ rest) = SomeSlice t c (answer.Paused d n) × Surveys t d rest
Surveys t c (answer.Refused e d ∷ rest) = ⊥

-- The places that it notes.
abbrev pub noted : List SliceAnswer → List Place
noted [] = []
noted (answer.Violated d n r ∷ rest) = place_at d.leg d.place ∷ noted rest
noted (answer.NothingViolated d n ∷ rest) = noted rest
noted (answer.Paused d n ∷ rest) = noted rest
noted (answer.Refused e d ∷ rest) = noted rest
