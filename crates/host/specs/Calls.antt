-- What the calls for C promise: the answer, and every lent byte (document 01, "Files"). out is lent for the cursor that comes back, and out' is out after the call.
use Rattle.std.specs.Prelude.{ℕ, ◌≡◌, List, length, Result, Ok, Err}
use Rattle.numbers.specs.Series.{file_of, overlaid}
use Rattle.table.specs.Layout.{first_layout}
use Rattle.table.specs.declared.Move.{Move}
use Rattle.files.specs.Theorems.{max_cursor_bytes}
use Rattle.files.specs.declared.Cursor.{Cursor}
use Rattle.places.specs.Order.{place_count}
use Rattle.checker.specs.Slices.{Starts, Slices}
use Rattle.checker.specs.Moves.{Moves}
use Rattle.files.specs.declared.Returned.{Returned}
use Rattle.checker.specs.declared.SliceAnswer.{SliceAnswer}
use Rattle.host.specs.declared.Answer.{Answer}
use Rattle.host.specs.Answers.{answered, refusal, slice_answered, start_answered, with_cursor, bytes_after_slice, bytes_after_start, result_alone}
use Rattle.editions.specs.Converted.{converted}
use Rattle.host.specs.Refusals.{AfterPlanIn, AfterPlan, AfterCursor, AfterRoom}

-- A start of the table t: given is what it gives. Granted, the number of places stands beside the result.
pub record Started (t : List ℕ) (out : List ℕ) (a : Answer) (out' : List ℕ) : Type 0 where
  pub given : Result Cursor Returned
  pub starts : Starts t given
  pub answer : a ≡ start_answered (place_count t) given
  pub after : out' ≡ bytes_after_start out given

-- A slice of the table t from the cursor c: given is what it gives.
pub record Sliced (t : List ℕ) (c : Cursor) (budget : ℕ) (out : List ℕ) (a : Answer) (out' : List ℕ) : Type 0 where
  pub given : SliceAnswer
  pub slices : Slices t c budget given
  pub answer : a ≡ slice_answered given
  pub after : out' ≡ bytes_after_slice out given

-- What is lent to a move: file for the new plan file, and out for the cursor.
pub record Lent : Type 0 where
  pub file : List ℕ
  pub out : List ℕ

abbrev pub lent : List ℕ → List ℕ → Lent
lent file out = record { file = file; out = out }

-- A granted move: the plan file of the new table u lies in the first bytes of file, the cursor d in the first bytes of out, and every other byte is as it was.
-- How many bytes the new plan file has stands beside the result.
pub record BothWritten (u : List ℕ) (d : Cursor) (m : Lent) (a : Answer) (m' : Lent) : Type 0 where
  pub answer : a ≡ answered 0 (length (file_of u))
  pub after : m' ≡ lent (overlaid m.file 0 (file_of u)) (with_cursor m.out d)

-- 15 where fewer bytes are lent for the new plan file than it has.
abbrev pub WritesBoth : List ℕ → Cursor → Lent → Answer → Lent → Type 0
WritesBoth u d m = AfterRoom Lent (length m.file) (length (file_of u)) m (BothWritten u d m)

-- A granted move writes both, where there is room; a refused one writes nothing.
abbrev pub AfterMove : Result Cursor Returned → List ℕ → Lent → Answer → Lent → Type 0
AfterMove (Ok d) u m a m' = WritesBoth u d m a m'
AfterMove (Err r) u m a m' = (a ≡ refusal r.refusal.cause r.refusal.at) × (m' ≡ m)

-- A move of one leg of the table t: given is what it gives, and table is what t becomes.
pub record MovedLeg (t : List ℕ) (c : Cursor) (mv : Move) (m : Lent) (a : Answer) (m' : Lent) : Type 0 where
  pub given : Result Cursor Returned
  pub table : List ℕ
  pub moves : Moves t c mv given table
  pub after : AfterMove given table m a m'

-- Once the plan is read, and for a slice or a move the cursor: refusal 15 where fewer than 15 bytes are lent for the cursor that comes back, then the call itself.
-- (A move's other refusal 15, for its new plan file, is the last of its refusals.)
abbrev pub StartsTable : List ℕ → List ℕ → Answer → List ℕ → Type 0
StartsTable t out = AfterRoom (List ℕ) (length out) max_cursor_bytes out (Started t out)

abbrev pub SlicesTable : List ℕ → Cursor → ℕ → List ℕ → Answer → List ℕ → Type 0
SlicesTable t c budget out = AfterRoom (List ℕ) (length out) max_cursor_bytes out (Sliced t c budget out)

abbrev pub MovesTable : List ℕ → Cursor → Move → Lent → Answer → Lent → Type 0
MovesTable t c mv m = AfterRoom Lent (length m.out) max_cursor_bytes m (MovedLeg t c mv m)

-- The calls, on the bytes of a plan file and of a saved cursor. A start is given no cursor.
abbrev pub HostStarts : List ℕ → List ℕ → Answer → List ℕ → Type 0
HostStarts plan out = AfterPlan (List ℕ) plan out (λ (t : List ℕ). StartsTable t out)

abbrev pub HostSlices : List ℕ → List ℕ → ℕ → List ℕ → Answer → List ℕ → Type 0
HostSlices plan cursor budget out =
    AfterPlan (List ℕ) plan out (λ (t : List ℕ). AfterCursor (List ℕ) cursor out (λ (c : Cursor). SlicesTable t c budget out))

abbrev pub HostMoves : List ℕ → List ℕ → Move → Lent → Answer → Lent → Type 0
HostMoves plan cursor mv m = AfterPlan Lent plan m (λ (t : List ℕ). AfterCursor Lent cursor m (λ (c : Cursor). MovesTable t c mv m))

-- The plan file of the table u lies in the first bytes of file, and every other byte is as it was. How many bytes it has stands beside the result.
pub record FileWritten (u file : List ℕ) (a : Answer) (file' : List ℕ) : Type 0 where
  pub answer : a ≡ answered 0 (length (file_of u))
  pub after : file' ≡ overlaid file 0 (file_of u)

-- 15 where fewer bytes are lent than it has.
abbrev pub WritesFile : List ℕ → List ℕ → Answer → List ℕ → Type 0
WritesFile u file = AfterRoom (List ℕ) (length file) (length (file_of u)) file (FileWritten u file)

-- A plan file of the first layout, converted: the plan file of what its table becomes is written.
abbrev pub HostConverts : List ℕ → List ℕ → Answer → List ℕ → Type 0
HostConverts old file = AfterPlanIn first_layout (List ℕ) old file (λ (u : List ℕ). WritesFile (converted first_layout u) file)

-- The slice that gives one number, r: the result of the answer that the slice in full gives.
pub record HostSliceResult (plan cursor : List ℕ) (budget : ℕ) (out : List ℕ) (r : ℕ) (out' : List ℕ) : Type 0 where
  pub answer : Answer
  pub slices : HostSlices plan cursor budget out answer out'
  pub is : r ≡ result_alone answer
