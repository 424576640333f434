-- What a move promises, by the cases of its answer (document 01, "Places and slices"), with the refusals 10, 11 and 17.
use Rattle.std.specs.Prelude.{ℕ, ◌+◌, ◌≤◌, ◌<◌, ◌≡◌, List, ◌⊎◌, Result, Ok, Err}
use Rattle.basics.specs.Refusals.{Refusals, unless, ◌then◌, ◌called◌}
use Rattle.basics.specs.declared.Cause.{Cause}
use Rattle.basics.specs.declared.Cause.TheVariants as cause
use Rattle.numbers.specs.Number.{max_word}
use Rattle.table.specs.Layout.{revision_of, leg_count}
use Rattle.table.specs.Records.{moved}
use Rattle.table.specs.declared.Move.{Move}
use Rattle.shape.specs.Streams.{max_periods}
use Rattle.files.specs.declared.Cursor.{Cursor}
use Rattle.files.specs.declared.Returned.{Returned}
use Rattle.places.specs.Order.{rank}
use Rattle.checker.specs.Cursors.{cursor_rank, CursorRight, cursor_refusals}

-- A move can be made of a table: the leg is there, the revision can rise, and the leg lies at most 7 periods late.
pub record CanMove (t : List ℕ) (mv : Move) : Type 0 where
  pub below : mv.leg < leg_count t
  pub rises : revision_of t < max_word
  pub periods : mv.periods ≤ max_periods

-- A move may be made: the cursor is right, and the move can be made of the table.
pub record MoveAllowed (t : List ℕ) (c : Cursor) (mv : Move) : Type 0 where
  pub cursor : CursorRight t c
  pub can : CanMove t mv

-- The refusals in their order: 1 to 9; then 10, the leg is not below G; then 11, a move at revision 4,294,967,295; then 17, a period word above 7 (document 02, L4).
abbrev pub move_refusals : List ℕ → Cursor → Move → Refusals
move_refusals t c mv =
    cursor_refusals t c
    then unless cause.NoLeg (mv.leg < leg_count t)
    then unless cause.CannotRise (revision_of t < max_word)
    then unless cause.TooLate (mv.periods ≤ max_periods)
    called MoveAllowed t c mv

-- The first refusal that is due is for k at p.
abbrev pub MoveFault : List ℕ → Cursor → Move → Cause → ℕ → Type 0
MoveFault t c mv k p = (move_refusals t c mv).Fault k p

-- The cursor d is at the lesser of the place of c and (leg,0).
pub record AtTheLesser (c : Cursor) (leg : ℕ) (d : Cursor) : Type 0 where
  pub one : ((d.leg ≡ c.leg) × (d.place ≡ c.place)) ⊎ ((d.leg ≡ leg) × (d.place ≡ 0))
  pub given : cursor_rank d ≤ cursor_rank c
  pub to_leg : cursor_rank d ≤ rank leg 0

-- A granted move: it may be made, the table t becomes t', and the cursor d is of the new revision.
pub record MoveRight (t : List ℕ) (c : Cursor) (mv : Move) (d : Cursor) (t' : List ℕ) : Type 0 where
  pub allowed : MoveAllowed t c mv
  pub table : t' ≡ moved t mv
  pub revision : d.revision ≡ revision_of t + 1
  pub lesser : AtTheLesser c mv.leg d

-- A move of one leg of table t, which becomes t'; a refused one leaves all.
abbrev pub Moves : List ℕ → Cursor → Move → Result Cursor Returned → List ℕ → Type 0
Moves t c mv (Ok d) t' = MoveRight t c mv d t'
Moves t c mv (Err e) t' = MoveFault t c mv e.refusal.cause e.refusal.at × (e.cursor ≡ c) × (t' ≡ t)
