-- Demand 3 on bytes: runs of the calls for C. A granted start is followed by any mix of starts, slices and moves, each given the plan file as it stands, and each
-- slice and move a saved cursor out of the bytes that an earlier call of the run left; the plan file is changed by the run's moves alone. A refused call writes nothing
-- (HostRefusalsWriteNothing) and is left out.
use Rattle.std.specs.Prelude.{ℕ, zero, suc, ◌≤◌, ◌<◌, ◌≡◌, List, [], ◌∷◌, ◌⊎◌, ltb, take}
use Rattle.basics.specs.Pick.{pick}
use Rattle.numbers.specs.Number.{max_word, group_values}
use Rattle.table.specs.Records.{EachNumber}
use Rattle.table.specs.declared.Move.{Move}
use Rattle.files.specs.Cursors.{cursor_numbers}
use Rattle.host.specs.Answers.{refused_result}
use Rattle.host.specs.Calls.{Lent, HostStarts, HostSlices, HostMoves}
use Rattle.host.specs.declared.Answer.{Answer}

-- How C finds the end of a saved cursor: the bytes up to the n-th that is below 128, that one included.
unfoldable pub up_to_closing : ℕ → List ℕ → List ℕ
up_to_closing n [] = []
up_to_closing zero (b ∷ bs) = []
up_to_closing (suc n) (b ∷ bs) = b ∷ pick (ltb b group_values) (up_to_closing n bs) (up_to_closing (suc n) bs)

abbrev pub saved_in : List ℕ → List ℕ
saved_in out = up_to_closing cursor_numbers out

-- A call: what it was handed besides the plan, its answer, and the bytes that it left. In a run none was refused.
pub data HostCall : Type 0 where
  start : Answer → List ℕ → HostCall
  slice : List ℕ → ℕ → Answer → List ℕ → HostCall
  move_leg : List ℕ → Move → Answer → Lent → HostCall

-- The bytes that it left for the cursor.
abbrev pub bytes_left : HostCall → List ℕ
bytes_left (start a out) = out
bytes_left (slice cursor budget a out) = out
bytes_left (move_leg cursor mv a m) = m.out

-- The calls of a run stand in a list, the latest first. A saved cursor was left by one of them.
abbrev pub LeftBy : List ℕ → List HostCall → Type 0
LeftBy cursor [] = ⊥
LeftBy cursor (call ∷ earlier) = (cursor ≡ saved_in (bytes_left call)) ⊎ LeftBy cursor earlier

-- The numbers of a move are words.
abbrev pub MoveOfWords : Move → Type 0
MoveOfWords mv = EachNumber (λ (n : ℕ). n ≤ max_word) mv

abbrev pub NotRefused : Answer → Type 0
NotRefused a = a.result < refused_result 0

-- A start, a slice and a move that were not refused. The numbers of a move are words, and the new plan is the first bytes that it left, as many as its answer says.
pub record StartMade (plan : List ℕ) (a : Answer) (out' : List ℕ) : Type 0 where
  pub out : List ℕ
  pub starts : HostStarts plan out a out'
  pub not_refused : NotRefused a

pub record SliceMade (plan cursor : List ℕ) (budget : ℕ) (a : Answer) (out' : List ℕ) : Type 0 where
  pub out : List ℕ
  pub slices : HostSlices plan cursor budget out a out'
  pub not_refused : NotRefused a

pub record MoveMade (old cursor : List ℕ) (mv : Move) (a : Answer) (m' : Lent) (plan : List ℕ) : Type 0 where
  pub m : Lent
  pub words : MoveOfWords mv
  pub moves : HostMoves old cursor mv m a m'
  pub not_refused : NotRefused a
  pub new : plan ≡ take a.beside m'.file

-- These calls are a run, and plan is the plan file as it stands after them.
abbrev pub HostRun : List HostCall → List ℕ → Type 0
HostRun [] plan = ⊥
HostRun (start a out ∷ []) plan = StartMade plan a out
HostRun (slice cursor budget a out ∷ []) plan = ⊥
HostRun (move_leg cursor mv a m ∷ []) plan = ⊥
HostRun (start a out ∷ call ∷ earlier) plan = HostRun (call ∷ earlier) plan × StartMade plan a out
HostRun (slice cursor budget a out ∷ call ∷ earlier) plan =
    HostRun (call ∷ earlier) plan × LeftBy cursor (call ∷ earlier) × SliceMade plan cursor budget a out
HostRun (move_leg cursor mv a m ∷ call ∷ earlier) plan =
    (old : List ℕ) × HostRun (call ∷ earlier) old × LeftBy cursor (call ∷ earlier) × MoveMade old cursor mv a m plan
