-- What one step of a survey tells.
use Rattle.std.specs.Prelude.{ℕ, List}
use Rattle.files.specs.declared.Cursor.{Cursor}
use Rattle.checker.specs.Cursors.{CursorRight}
use Rattle.checker.specs.Slices.{Slices}
use Rattle.checker.specs.declared.SliceAnswer.TheVariants as answer
use Rattle.survey.specs.Survey.{RightAfter}
use Rattle.survey.specs.declared.Found.{Found}
use Rattle.survey.specs.declared.Found.TheVariants as found

-- The step is a slice: it found the violated place d of rule r, the n-th that it looked at, and e stands right after it; it paused at d; or nothing is violated from c on.
abbrev pub Finds : List ℕ → Cursor → ℕ → Found → Type 0
Finds t c budget (found.Violated d n r e) = Slices t c budget (answer.Violated d n r) × (RightAfter t d e × CursorRight t e)
Finds t c budget (found.Paused d) = (n : ℕ) × Slices t c budget (answer.Paused d n)
Finds t c budget (found.Over d) = (n : ℕ) × Slices t c budget (answer.NothingViolated d n)
