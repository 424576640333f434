-- What is proved of the calls for C.
use Rattle.std.specs.Prelude.{ℕ, ◌+◌, ◌-◌, ◌≤◌, ◌≡◌, List, ◌⊎◌, length, Ok, Err}
use Rattle.basics.specs.Cause.{number_of}
use Rattle.basics.specs.declared.Cause.{Cause}
use Rattle.basics.specs.declared.Cause.TheVariants as cause
use Rattle.basics.specs.declared.Refusal.{Refusal}
use Rattle.table.specs.declared.Move.{Move}
use Rattle.shape.specs.OfTables.{RefusalNumber, max_refusal}
use Rattle.files.specs.Plan.{PlanFault}
use Rattle.files.specs.Theorems.{max_file_bytes, max_cursor_bytes}
use Rattle.files.specs.declared.Cursor.{Cursor}
use Rattle.rules.specs.declared.Rule.TheVariants as rule
use Rattle.files.specs.declared.Returned.{Returned}
use Rattle.checker.specs.declared.SliceAnswer.TheVariants as answer
use Rattle.host.specs.declared.Answer.{Answer}
use Rattle.host.specs.Answers.{refused_result, answered, refusal, slice_answered, start_answered, result_alone}
use Rattle.host.specs.Calls.{Lent, HostStarts, HostSlices, HostSliceResult, HostMoves, HostConverts}

-- No second answer and no second memory satisfies Does, the statement of a call.
abbrev pub OneAnswer : (A M : Type 0) → (A → M → Type 0) → Type 0
OneAnswer A M Does = (a b : A) (m n : M) → Does a m → Does b n → (a ≡ b) × (m ≡ n)

abbrev pub HostStartOneAnswer : Type 0
HostStartOneAnswer = (plan out : List ℕ) → OneAnswer Answer (List ℕ) (HostStarts plan out)

-- The slice in full, and its result alone.
abbrev pub HostSliceFullOneAnswer : Type 0
HostSliceFullOneAnswer = (plan cursor : List ℕ) (budget : ℕ) (out : List ℕ) → OneAnswer Answer (List ℕ) (HostSlices plan cursor budget out)

abbrev pub HostSliceOneAnswer : Type 0
HostSliceOneAnswer = (plan cursor : List ℕ) (budget : ℕ) (out : List ℕ) → OneAnswer ℕ (List ℕ) (HostSliceResult plan cursor budget out)

abbrev pub HostMoveOneAnswer : Type 0
HostMoveOneAnswer = (plan cursor : List ℕ) (mv : Move) (m : Lent) → OneAnswer Answer Lent (HostMoves plan cursor mv m)

abbrev pub HostConvertOneAnswer : Type 0
HostConvertOneAnswer = (old file : List ℕ) → OneAnswer Answer (List ℕ) (HostConverts old file)

-- The slice that gives one number gives the result of the slice in full, and writes the same.
abbrev pub SliceGivesTheResult : Type 0
SliceGivesTheResult =
    (plan cursor : List ℕ) (budget : ℕ) (out : List ℕ) (r : ℕ) (a : Answer) (out' out'' : List ℕ)
    → HostSliceResult plan cursor budget out r out' → HostSlices plan cursor budget out a out'' → (r ≡ result_alone a) × (out' ≡ out'')

-- A refusal, which is a result of 100 or more, writes nothing: the memory is still m.
abbrev pub Keeps : (M : Type 0) → M → (Answer → M → Type 0) → Type 0
Keeps M m Does = (a : Answer) (m' : M) → Does a m' → refused_result 0 ≤ a.result → m' ≡ m

pub record HostRefusalsWriteNothing : Type 0 where
  pub start : (plan out : List ℕ) → Keeps (List ℕ) out (HostStarts plan out)
  pub slice : (plan cursor : List ℕ) (budget : ℕ) (out : List ℕ) → Keeps (List ℕ) out (HostSlices plan cursor budget out)
  pub slice_alone : (plan cursor : List ℕ) (budget : ℕ) (out : List ℕ) (r : ℕ) (out' : List ℕ) → HostSliceResult plan cursor budget out r out' → refused_result 0 ≤ r → out' ≡ out
  pub move_leg : (plan cursor : List ℕ) (mv : Move) (m : Lent) → Keeps Lent m (HostMoves plan cursor mv m)
  pub convert : (old file : List ℕ) → Keeps (List ℕ) file (HostConverts old file)

-- Which file a refusal 12, 13 or 14 lies in: in every call a fault of the plan file comes before all else, and a start gives 12, 13 and 14 for such a fault alone.
-- So it lies in the plan file exactly when a start gives it too.
pub record PlanFaultsComeFirst : Type 0 where
  pub start : (plan out : List ℕ) (k : Cause) (p : ℕ) (a : Answer) (out' : List ℕ) → PlanFault plan k p → HostStarts plan out a out' → a ≡ refusal k p
  pub slice : (plan cursor : List ℕ) (budget : ℕ) (out : List ℕ) (k : Cause) (p : ℕ) (a : Answer) (out' : List ℕ)
      → PlanFault plan k p → HostSlices plan cursor budget out a out' → a ≡ refusal k p
  pub move_leg : (plan cursor : List ℕ) (mv : Move) (m : Lent) (k : Cause) (p : ℕ) (a : Answer) (m' : Lent)
      → PlanFault plan k p → HostMoves plan cursor mv m a m' → a ≡ refusal k p
  pub no_other : (plan out : List ℕ) (k : Cause) (p : ℕ) (out' : List ℕ) → 12 ≤ number_of k → number_of k ≤ 14 → HostStarts plan out (refusal k p) out' → PlanFault plan k p

-- A move makes a plan file longer by 5 bytes at the most: 4 for the offset and 1 for the revision; a period word has one byte. So whoever lends that much more than the plan has for the new
-- file, and 15 bytes for the cursor, is not refused with 15.
abbrev pub move_bytes : ℕ
move_bytes = 5

abbrev pub MoveRoomIsEnough : Type 0
MoveRoomIsEnough =
    (plan cursor : List ℕ) (mv : Move) (m : Lent) (a : Answer) (m' : Lent)
    → max_cursor_bytes ≤ length m.out → length plan + move_bytes ≤ length m.file
    → HostMoves plan cursor mv m a m' → a.result ≡ refused_result (number_of cause.NoRoom) → ⊥

-- Nor is whoever lends as many bytes for the new file as the longest plan file may have, and 15 for the cursor, whatever the plan.
abbrev pub FullRoomIsEnough : Type 0
FullRoomIsEnough =
    (plan cursor : List ℕ) (mv : Move) (m : Lent) (a : Answer) (m' : Lent)
    → max_cursor_bytes ≤ length m.out → max_file_bytes ≤ length m.file
    → HostMoves plan cursor mv m a m' → a.result ≡ refused_result (number_of cause.NoRoom) → ⊥

-- A conversion to as many bytes as the largest plan file has is not refused with 15.
abbrev pub ConvertRoomIsEnough : Type 0
ConvertRoomIsEnough =
    (old file : List ℕ) (a : Answer) (file' : List ℕ) → max_file_bytes ≤ length file
    → HostConverts old file a file' → a.result ≡ refused_result (number_of cause.NoRoom) → ⊥

-- The results of refusals: 102, 104 to 115, and 117. No call gives 101 or 103: they are of tables in memory, and a plan file that is read has the length that its header
-- says.
abbrev pub IsRefusal : ℕ → Type 0
IsRefusal r = (r ≡ 102) ⊎ ((104 ≤ r) × RefusalNumber (r - 100))

-- A slice that is not refused has one of the results 0 to 5.
abbrev pub SliceResult : ℕ → Type 0
SliceResult r = r ≤ 5

-- Which results there are: 0 of a start, of a move and of a conversion, those of a slice, or a refusal.
pub record ResultsAreThese : Type 0 where
  pub start : (plan out : List ℕ) (a : Answer) (out' : List ℕ) → HostStarts plan out a out' → (a.result ≡ 0) ⊎ IsRefusal a.result
  pub slice : (plan cursor : List ℕ) (budget : ℕ) (out : List ℕ) (r : ℕ) (out' : List ℕ)
      → HostSliceResult plan cursor budget out r out' → SliceResult r ⊎ IsRefusal r
  pub slice_full : (plan cursor : List ℕ) (budget : ℕ) (out : List ℕ) (a : Answer) (out' : List ℕ)
      → HostSlices plan cursor budget out a out' → SliceResult a.result ⊎ IsRefusal a.result
  pub move_leg : (plan cursor : List ℕ) (mv : Move) (m : Lent) (a : Answer) (m' : Lent)
      → HostMoves plan cursor mv m a m' → (a.result ≡ 0) ⊎ IsRefusal a.result
  pub convert : (old file : List ℕ) (a : Answer) (file' : List ℕ) → HostConverts old file a file' → (a.result ≡ 0) ⊎ IsRefusal a.result

-- The answers at the paper's numbers: 0 nothing violated, 1 paused, 2 to 5 violated (window, hop, deadline, overlap), each with the steps; a start, 0 with the
-- places; 100 plus the refusal number, with the position. And 15, the fewest bytes that are taken for the cursor; and 17, the largest refusal.
pub record ResultsOfThePaper : Type 0 where
  pub nothing_violated : (d : Cursor) (n : ℕ) → slice_answered (answer.NothingViolated d n) ≡ answered 0 n
  pub paused : (d : Cursor) (n : ℕ) → slice_answered (answer.Paused d n) ≡ answered 1 n
  pub window : (d : Cursor) (n : ℕ) → slice_answered (answer.Violated d n rule.Window) ≡ answered 2 n
  pub hop : (d : Cursor) (n : ℕ) → slice_answered (answer.Violated d n rule.Hop) ≡ answered 3 n
  pub deadline : (d : Cursor) (n : ℕ) → slice_answered (answer.Violated d n rule.Deadline) ≡ answered 4 n
  pub overlap : (d : Cursor) (n : ℕ) → slice_answered (answer.Violated d n rule.Overlap) ≡ answered 5 n
  pub refused : (e : Refusal) (d : Cursor) → slice_answered (answer.Refused e d) ≡ answered (100 + number_of e.cause) e.at
  pub started : (n : ℕ) (d : Cursor) → start_answered n (Ok d) ≡ answered 0 n
  pub not_started : (n : ℕ) (r : Returned) → start_answered n (Err r) ≡ answered (100 + number_of r.refusal.cause) r.refusal.at
  pub room : max_cursor_bytes ≡ 15
  pub largest : max_refusal ≡ 17
