-- Demand 3: after a granted start, mix slices of any budget with moves, any cursor handed out earlier in the run being given. If only our moves change the
-- table, and cursors are not altered, each verdict is that of a whole check of the table as it stands then. With the newest cursor each time, a verdict
-- has come since the start or last granted move once at least one slice has run since then and the budgets since then add up to at least the number of
-- places.
use Rattle.std.specs.Prelude.{ℕ, ◌≤◌, ◌≡◌, List, ◌∷◌, ◌++◌, Err}
use Rattle.basics.specs.declared.Refusal.{Refusal}
use Rattle.files.specs.declared.Returned.{Returned}
use Rattle.table.specs.declared.Move.{Move}
use Rattle.shape.specs.Shape.{WellFormedTable}
use Rattle.files.specs.declared.Cursor.{Cursor}
use Rattle.places.specs.Order.{place_count}
use Rattle.checker.specs.Slices.{Slices}
use Rattle.checker.specs.Moves.{CanMove, Moves}
use Rattle.checker.specs.declared.SliceAnswer.{SliceAnswer}
use Rattle.checker.specs.declared.SliceAnswer.TheVariants as answer
use Rattle.demands.specs.Verdicts.{Verdict, Gives, RightVerdict}
use Rattle.demands.specs.DemandTwo.{WholeCheck}
use Rattle.demands.specs.Runs.{Call, slice, cursor_of, Run, Renews, without_refused, Since, budgets, HasSlice, HasVerdict}

-- Sound: in every run each verdict is what the rules, in their unending meaning, say of the table as it stands then. There is a whole check of that
-- table, and each gives this verdict.
pub record Sound (t : List ℕ) (v : Verdict) : Type 0 where
  pub right : RightVerdict t v
  pub whole : SliceAnswer
  pub checked : WholeCheck t whole
  pub each : (w : SliceAnswer) → WholeCheck t w → Gives w v

-- A table has one right verdict.
abbrev pub OneRightVerdict : Type 0
OneRightVerdict = (t : List ℕ) (v w : Verdict) → RightVerdict t v → RightVerdict t w → v ≡ w

abbrev pub RunsAreSound : Type 0
RunsAreSound =
    (calls : List Call) (t : List ℕ) (c : Cursor) (budget : ℕ) (r : SliceAnswer) (v : Verdict)
    → Run (slice c budget r ∷ calls) t → Gives r v → Sound t v

-- In time: with the newest cursor each time, a verdict has come since the start or last granted move once at least one slice has run since then and the
-- budgets since then add up to at least the number of places. The calls since then are the part. What was refused in it is passed over: its budget does not
-- count, and its cursor is not the newest. Every other call in it is a slice, given the cursor in the latest answer that was not a refusal.
abbrev pub RunsEndInTime : Type 0
RunsEndInTime =
    (part : List Call) (last : Call) (earlier : List Call) (t : List ℕ)
    → Run (part ++ last ∷ earlier) t → Renews last → Since (without_refused part) last
    → HasSlice (without_refused part) → place_count t ≤ budgets (without_refused part) → HasVerdict part

-- So nothing is lost by passing over what was refused: in a run no slice that is given the newest cursor is refused. Nor is a move
-- that is given it, if it can be made: the table has that leg, and its revision can rise.
pub record RunsGoOn : Type 0 where
  pub slice : (calls : List Call) (t : List ℕ) (latest : Call) (before : List Call) (budget : ℕ) (e : Refusal) (d : Cursor)
      → Run calls t → without_refused calls ≡ latest ∷ before → Slices t (cursor_of latest) budget (answer.Refused e d) → ⊥
  pub move_leg : (calls : List Call) (t : List ℕ) (latest : Call) (before : List Call) (mv : Move) (r : Returned) (u : List ℕ)
      → Run calls t → without_refused calls ≡ latest ∷ before → CanMove t mv → Moves t (cursor_of latest) mv (Err r) u → ⊥

-- The table stays well-formed, so that no start of a run is refused.
abbrev pub RunsKeepShape : Type 0
RunsKeepShape = (calls : List Call) (t : List ℕ) → Run calls t → WellFormedTable t

pub record DemandThree : Type 0 where
  pub sound : RunsAreSound
  pub one_verdict : OneRightVerdict
  pub in_time : RunsEndInTime
  pub go_on : RunsGoOn
  pub shape : RunsKeepShape
