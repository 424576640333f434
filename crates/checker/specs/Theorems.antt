-- What is proved of start, slice and move.
use Rattle.std.specs.Prelude.{ℕ, ◌≡◌, List, Result}
use Rattle.table.specs.declared.Move.{Move}
use Rattle.files.specs.declared.Cursor.{Cursor}
use Rattle.checker.specs.Slices.{Starts, Slices}
use Rattle.checker.specs.Moves.{Moves}
use Rattle.files.specs.declared.Returned.{Returned}
use Rattle.checker.specs.declared.SliceAnswer.{SliceAnswer}

-- A start, a slice and a move each have one answer, and a move leaves one table.
abbrev pub StartOneAnswer : Type 0
StartOneAnswer = (t : List ℕ) (r r' : Result Cursor Returned) → Starts t r → Starts t r' → r ≡ r'

abbrev pub SliceOneAnswer : Type 0
SliceOneAnswer = (t : List ℕ) (c : Cursor) (budget : ℕ) (r r' : SliceAnswer) → Slices t c budget r → Slices t c budget r' → r ≡ r'

abbrev pub MoveOneAnswer : Type 0
MoveOneAnswer =
    (t : List ℕ) (c : Cursor) (mv : Move) (r r' : Result Cursor Returned) (u u' : List ℕ)
    → Moves t c mv r u → Moves t c mv r' u' → (r ≡ r') × (u ≡ u')
