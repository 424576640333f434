-- The host's refusals in their order (document 01, "Numbered refusals": plan reader, cursor reader, 15, then as a slice; a start and a move likewise). M is the
-- kind of lent memory, m that memory before the call and m' after it, and a the answer. Then says what holds where nothing was refused so far.
use Rattle.std.specs.Prelude.{ℕ, ◌≤◌, ◌≡◌, List, ◌⊎◌, Ok}
use Rattle.basics.specs.Refusals.{unless}
use Rattle.basics.specs.Cause.{refused}
use Rattle.basics.specs.declared.Cause.{Cause}
use Rattle.basics.specs.declared.Cause.TheVariants as cause
use Rattle.table.specs.Layout.{current, SizedIn}
use Rattle.table.specs.declared.Edition.{Edition}
use Rattle.files.specs.Reading.{IsFile}
use Rattle.files.specs.Plan.{PlanFaultIn}
use Rattle.files.specs.Cursors.{ReadsCursor}
use Rattle.files.specs.declared.Cursor.{Cursor}
use Rattle.host.specs.declared.Answer.{Answer}
use Rattle.host.specs.Answers.{refusal}

-- Refused for a fault: the answer is its number and position, and nothing is written.
pub record RefusedFor (M : Type 0) (Fault : Cause → ℕ → Type 0) (m : M) (a : Answer) (m' : M) : Type 0 where
  pub cause : Cause
  pub at : ℕ
  pub fault : Fault cause at
  pub answer : a ≡ refusal cause at
  pub kept : m' ≡ m

-- The cursor reader refuses the saved cursor s with k at p.
abbrev pub CursorUnread : List ℕ → Cause → ℕ → Type 0
CursorUnread s k p = ReadsCursor s (refused k p)

-- A stage: refused for a fault and nothing is written, or what comes next.
abbrev pub After : (M : Type 0) → (Cause → ℕ → Type 0) → M → (Answer → M → Type 0) → Answer → M → Type 0
After M Fault m Next a m' = RefusedFor M Fault m a m' ⊎ Next a m'

-- What comes next: there is a value for which Clear holds, and Then says the rest for this value.
abbrev pub With : (M Value : Type 0) → (Value → Type 0) → (Value → Answer → M → Type 0) → Answer → M → Type 0
With M Value Clear Then a m' = (v : Value) × Clear v × Then v a m'

-- The plan reader of a layout refuses the file, or it is the file of a table. It never refuses 15: the host has room for every table.
abbrev pub AfterPlanIn : Edition → (M : Type 0) → List ℕ → M → (List ℕ → Answer → M → Type 0) → Answer → M → Type 0
AfterPlanIn e M plan m Then = After M (PlanFaultIn e plan) m (With M (List ℕ) (IsFile (SizedIn e) plan) Then)

abbrev pub AfterPlan : (M : Type 0) → List ℕ → M → (List ℕ → Answer → M → Type 0) → Answer → M → Type 0
AfterPlan M plan m Then = AfterPlanIn current M plan m Then

-- The cursor reader refuses the saved cursor, or it is that of a cursor.
abbrev pub AfterCursor : (M : Type 0) → List ℕ → M → (Cursor → Answer → M → Type 0) → Answer → M → Type 0
AfterCursor M cursor m Then = After M (CursorUnread cursor) m (With M Cursor (λ (c : Cursor). ReadsCursor cursor (Ok c)) Then)

-- 15 unless as many bytes are lent as are needed.
abbrev pub AfterRoom : (M : Type 0) → ℕ → ℕ → M → (Answer → M → Type 0) → Answer → M → Type 0
AfterRoom M room needed m Then = After M (unless cause.NoRoom (needed ≤ room)).Fault m (λ a m'. (needed ≤ room) × Then a m')
