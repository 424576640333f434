-- Runs of the three calls (demand 3): a granted start followed by any mix of further starts, slices and moves, granted or refused, each slice and each
-- move given any cursor handed out earlier in the run, the table changed by the run's moves alone. The steps are the public calls' own statements.
use Rattle.std.specs.Prelude.{ℕ, ◌+◌, Bool, true, false, ◌≡◌, List, [], ◌∷◌, ◌⊎◌, Result, Ok, Err}
use Rattle.files.specs.declared.Returned.{Returned}
use Rattle.basics.specs.Pick.{pick}
use Rattle.table.specs.declared.Move.{Move}
use Rattle.files.specs.declared.Cursor.{Cursor}
use Rattle.checker.specs.Slices.{Starts, Slices}
use Rattle.checker.specs.Moves.{Moves}
use Rattle.checker.specs.declared.SliceAnswer.{SliceAnswer}
use Rattle.checker.specs.declared.SliceAnswer.TheVariants as answer
use Rattle.demands.specs.Verdicts.{Verdict, Gives}

-- A call and its answer: a start; a slice from a cursor with a budget; a move, given a cursor.
pub data Call : Type 0 where
  start : Result Cursor Returned → Call
  slice : Cursor → ℕ → SliceAnswer → Call
  move_leg : Cursor → Move → Result Cursor Returned → Call

-- The cursor in an answer. Every one counts as handed out.
abbrev pub cursor_of_grant : Result Cursor Returned → Cursor
cursor_of_grant (Ok d) = d
cursor_of_grant (Err r) = r.cursor

abbrev pub cursor_of_answer : SliceAnswer → Cursor
cursor_of_answer (answer.Violated d n r) = d
cursor_of_answer (answer.NothingViolated d n) = d
cursor_of_answer (answer.Paused d n) = d
cursor_of_answer (answer.Refused f d) = d

abbrev pub cursor_of : Call → Cursor
cursor_of (start g) = cursor_of_grant g
cursor_of (slice c budget r) = cursor_of_answer r
cursor_of (move_leg c mv g) = cursor_of_grant g

-- The calls of a run stand in a list, the latest first. A cursor was handed out by one of them.
abbrev pub HandedOut : Cursor → List Call → Type 0
HandedOut c [] = ⊥
HandedOut c (call ∷ earlier) = (c ≡ cursor_of call) ⊎ HandedOut c earlier

-- A run begins with a granted start.
abbrev pub Begins : List ℕ → Call → Type 0
Begins t (start (Ok d)) = Starts t (Ok d)
Begins t (start (Err d)) = ⊥
Begins t (slice c budget r) = ⊥
Begins t (move_leg c mv g) = ⊥

-- These calls are a run, and t is the table as it stands after them.
abbrev pub Run : List Call → List ℕ → Type 0
Run [] t = ⊥
Run (call ∷ []) t = Begins t call
Run (start g ∷ call ∷ earlier) t = Run (call ∷ earlier) t × Starts t g
Run (slice c budget r ∷ call ∷ earlier) t = Run (call ∷ earlier) t × HandedOut c (call ∷ earlier) × Slices t c budget r
Run (move_leg c mv g ∷ call ∷ earlier) t = (u : List ℕ) × Run (call ∷ earlier) u × HandedOut c (call ∷ earlier) × Moves u c mv g t

-- A start or a granted move. (In a run no start is refused, since the table stays well-formed: RunsKeepShape.)
abbrev pub Renews : Call → Type 0
Renews (start g) = Unit {0}
Renews (slice c budget r) = ⊥
Renews (move_leg c mv (Ok d)) = Unit {0}
Renews (move_leg c mv (Err d)) = ⊥

-- A refused call. It changed nothing and gave back the cursor that it was given.
abbrev pub not_granted : Result Cursor Returned → Bool
not_granted (Ok d) = false
not_granted (Err d) = true

abbrev pub refused : Call → Bool
refused (start g) = not_granted g
refused (slice c budget (answer.Violated d n r)) = false
refused (slice c budget (answer.NothingViolated d n)) = false
refused (slice c budget (answer.Paused d n)) = false
refused (slice c budget (answer.Refused f d)) = true
refused (move_leg c mv g) = not_granted g

-- The calls without the refused ones, which are passed over: whatever cursor they were given, they count for nothing.
abbrev pub without_refused : List Call → List Call
without_refused [] = []
without_refused (call ∷ part) = pick (refused call) (without_refused part) (call ∷ without_refused part)

-- Of calls that were not refused, the newest cursor is the one in the last answer: of the latest call of the part or, if the part is empty, of the call before it.
abbrev pub newest : List Call → Call → Cursor
newest [] last = cursor_of last
newest (call ∷ part) last = cursor_of call

-- The part since the call last has slices alone, each given the newest cursor.
abbrev pub Since : List Call → Call → Type 0
Since [] last = Unit {0}
Since (start g ∷ part) last = ⊥
Since (slice c budget r ∷ part) last = (c ≡ newest part last) × Since part last
Since (move_leg c mv g ∷ part) last = ⊥

-- What the budgets of the slices of a part add up to.
abbrev pub budgets : List Call → ℕ
budgets [] = 0
budgets (start g ∷ part) = budgets part
budgets (slice c budget r ∷ part) = budget + budgets part
budgets (move_leg c mv g ∷ part) = budgets part

-- A slice is in a part; a slice that gave a verdict is in it.
abbrev pub HasSlice : List Call → Type 0
HasSlice [] = ⊥
HasSlice (start g ∷ part) = HasSlice part
HasSlice (slice c budget r ∷ part) = Unit {0}
HasSlice (move_leg c mv g ∷ part) = HasSlice part

abbrev pub HasVerdict : List Call → Type 0
HasVerdict [] = ⊥
HasVerdict (start g ∷ part) = HasVerdict part
HasVerdict (slice c budget r ∷ part) = ((v : Verdict) × Gives r v) ⊎ HasVerdict part
HasVerdict (move_leg c mv g ∷ part) = HasVerdict part
