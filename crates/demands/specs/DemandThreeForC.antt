-- Demand 3 for C: in every run of the calls on bytes each verdict is that of a whole check of the plan as it stands then, and a verdict comes in time.
use Rattle.std.specs.Prelude.{ℕ, ◌+◌, ◌≤◌, ◌≡◌, List, [], ◌∷◌, ◌++◌, ◌⊎◌, length, Ok}
use Rattle.table.specs.Layout.{Sized}
use Rattle.table.specs.declared.Move.{Move}
use Rattle.files.specs.Reading.{IsFile}
use Rattle.files.specs.Cursors.{ReadsCursor}
use Rattle.files.specs.Theorems.{max_cursor_bytes}
use Rattle.files.specs.declared.Cursor.{Cursor}
use Rattle.rules.specs.declared.Rule.{Rule}
use Rattle.places.specs.Order.{place_count}
use Rattle.checker.specs.Moves.{CanMove}
use Rattle.host.specs.Answers.{rule_result}
use Rattle.host.specs.Calls.{Lent, HostStarts, HostSlices, HostMoves}
use Rattle.host.specs.Theorems.{move_bytes}
use Rattle.host.specs.declared.Answer.{Answer}
use Rattle.demands.specs.Verdicts.{Verdict, violated, nothing_violated}
use Rattle.demands.specs.DemandThree.{Sound}
use Rattle.demands.specs.HostRuns.{saved_in, HostCall, start, slice, move_leg, bytes_left, NotRefused, SliceMade, HostRun}

-- A rule is violated, at the place of the cursor that the slice left.
pub record TellsPlace (a : Answer) (out : List ℕ) (v : Verdict) : Type 0 where
  pub rule : Rule
  pub cursor : Cursor
  pub result : a.result ≡ rule_result rule
  pub saved : ReadsCursor (saved_in out) (Ok cursor)
  pub is : v ≡ violated cursor.leg cursor.place rule

-- The verdict that C is given by a slice: 0, or a rule with its place.
abbrev pub HostGives : Answer → List ℕ → Verdict → Type 0
HostGives a out v = ((a.result ≡ 0) × (v ≡ nothing_violated)) ⊎ TellsPlace a out v

-- Sound: the plan file is that of a table, and the verdict is that of a whole check of it.
pub record SoundFile (plan : List ℕ) (v : Verdict) : Type 0 where
  pub table : List ℕ
  pub file : IsFile Sized plan table
  pub sound : Sound table v

abbrev pub HostRunsAreSound : Type 0
HostRunsAreSound =
    (calls : List HostCall) (plan cursor : List ℕ) (budget : ℕ) (a : Answer) (out : List ℕ) (v : Verdict)
    → HostRun (slice cursor budget a out ∷ calls) plan → HostGives a out v → SoundFile plan v

-- In time: the part of a run since the call last has slices alone, each given the saved cursor that the call before it left.
abbrev pub newest_left : List HostCall → HostCall → List ℕ
newest_left [] last = saved_in (bytes_left last)
newest_left (call ∷ part) last = saved_in (bytes_left call)

abbrev pub HostSince : List HostCall → HostCall → Type 0
HostSince [] last = Unit {0}
HostSince (start a out ∷ part) last = ⊥
HostSince (slice cursor budget a out ∷ part) last = (cursor ≡ newest_left part last) × HostSince part last
HostSince (move_leg cursor mv a m ∷ part) last = ⊥

-- The call last is a start or a move.
abbrev pub HostRenews : HostCall → Type 0
HostRenews (start a out) = Unit {0}
HostRenews (slice cursor budget a out) = ⊥
HostRenews (move_leg cursor mv a m) = Unit {0}

abbrev pub host_budgets : List HostCall → ℕ
host_budgets [] = 0
host_budgets (start a out ∷ part) = host_budgets part
host_budgets (slice cursor budget a out ∷ part) = budget + host_budgets part
host_budgets (move_leg cursor mv a m ∷ part) = host_budgets part

-- A slice that gave a verdict is in the part.
abbrev pub HostHasVerdict : List HostCall → Type 0
HostHasVerdict [] = ⊥
HostHasVerdict (start a out ∷ part) = HostHasVerdict part
HostHasVerdict (slice cursor budget a out ∷ part) = ((v : Verdict) × HostGives a out v) ⊎ HostHasVerdict part
HostHasVerdict (move_leg cursor mv a m ∷ part) = HostHasVerdict part

-- Some slice of such a part gave a verdict, if a slice ran in it and the budgets add up to at least the number of places.
abbrev pub HostRunsEndInTime : Type 0
HostRunsEndInTime =
    (latest : HostCall) (part : List HostCall) (last : HostCall) (earlier : List HostCall) (plan t : List ℕ)
    → HostRun ((latest ∷ part) ++ last ∷ earlier) plan → HostRenews last → HostSince (latest ∷ part) last
    → IsFile Sized plan t → place_count t ≤ host_budgets (latest ∷ part) → HostHasVerdict (latest ∷ part)

-- The calls go on, where 15 bytes are lent for the cursor: in a run no start is refused, nor a slice that is given the newest cursor; nor a move with it that
-- can be made of the table whose file the plan is, where the plan's length and 5 bytes more are lent for the new file. And a slice that did not pause
-- gave a verdict.
pub record HostRunsGoOn : Type 0 where
  pub start : (calls : List HostCall) (plan out : List ℕ) (a : Answer) (out' : List ℕ)
      → HostRun calls plan → max_cursor_bytes ≤ length out → HostStarts plan out a out' → NotRefused a
  pub slice : (latest : HostCall) (earlier : List HostCall) (plan : List ℕ) (budget : ℕ) (out : List ℕ) (a : Answer) (out' : List ℕ)
      → HostRun (latest ∷ earlier) plan → max_cursor_bytes ≤ length out → HostSlices plan (saved_in (bytes_left latest)) budget out a out' → NotRefused a
  pub move_leg : (latest : HostCall) (earlier : List HostCall) (plan t : List ℕ) (mv : Move) (m : Lent) (a : Answer) (m' : Lent)
      → HostRun (latest ∷ earlier) plan → IsFile Sized plan t → CanMove t mv
      → max_cursor_bytes ≤ length m.out → length plan + move_bytes ≤ length m.file
      → HostMoves plan (saved_in (bytes_left latest)) mv m a m' → NotRefused a
  pub verdict : (plan cursor : List ℕ) (budget : ℕ) (a : Answer) (out : List ℕ)
      → SliceMade plan cursor budget a out → (a.result ≡ 1 → ⊥) → (v : Verdict) × HostGives a out v

pub record DemandThreeForC : Type 0 where
  pub sound : HostRunsAreSound
  pub in_time : HostRunsEndInTime
  pub go_on : HostRunsGoOn
