-- What is proved of admissions.
use Rattle.std.specs.Prelude.{ℕ, ◌≤◌, ◌≡◌, List, None, Ok}
use Rattle.enlarge.specs.declared.Wanted.{Wanted}
use Rattle.admission.specs.Admits.{Admission, WholeTold, PieceTold, Admits, AdmitsBetween}

-- What is told is one answer at most, whole and in pieces. (That there is one is the contract of the calls.)
abbrev pub ToldOneAnswer : Type 0
ToldOneAnswer = (t : List ℕ) (w : Wanted) (route : List ℕ) (room : ℕ) (a b : Admission) → WholeTold t w route room a → WholeTold t w route room b → a ≡ b

abbrev pub PieceToldOneAnswer : Type 0
PieceToldOneAnswer =
    (t : List ℕ) (w : Wanted) (route : List ℕ) (room from until : ℕ) (a b : Admission)
    → PieceTold t w route room from until a → PieceTold t w route room from until b → a ≡ b

-- A call has one answer and leaves one memory.
abbrev pub AdmitOneAnswer : Type 0
AdmitOneAnswer =
    (t : List ℕ) (w : Wanted) (route out out' out'' : List ℕ) (a b : Admission)
    → Admits t w route out a out' → Admits t w route out b out'' → (a ≡ b) × (out' ≡ out'')

abbrev pub AdmitBetweenOneAnswer : Type 0
AdmitBetweenOneAnswer =
    (t : List ℕ) (w : Wanted) (route : List ℕ) (from until : ℕ) (out out' out'' : List ℕ) (a b : Admission)
    → AdmitsBetween t w route from until out a out' → AdmitsBetween t w route from until out b out'' → (a ≡ b) × (out' ≡ out'')

-- Pieces tell what a whole admission tells, where all of them are given the same table, stream, route and room. Where none fits yet up to but without m, the next piece begins at m or before: what it tells is told of both
-- pieces together. And what is told of pieces from 0 on, if it is not that none fits yet, a whole admission tells.
pub record PiecesMakeTheWhole : Type 0 where
  pub join : (t : List ℕ) (w : Wanted) (route : List ℕ) (room from m until : ℕ) (a : Admission)
      → from ≤ m → PieceTold t w route room from m (Ok None) → PieceTold t w route room m until a → PieceTold t w route room from until a
  pub whole : (t : List ℕ) (w : Wanted) (route : List ℕ) (room until : ℕ) (a : Admission)
      → (a ≡ Ok None → ⊥) → PieceTold t w route room 0 until a → WholeTold t w route room a
