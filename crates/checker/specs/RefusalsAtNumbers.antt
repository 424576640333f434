-- The refusals 8 to 11 and 17 at numbers, most of them where a later one is due too.
use Rattle.std.specs.Prelude.{ℕ}
use Rattle.basics.specs.declared.Cause.TheVariants as cause
use Rattle.table.specs.Records.{move_to}
use Rattle.table.specs.PlanA.{plan_a_of}
use Rattle.shape.specs.RefusalsAtNumbers.{wrong_leg}
use Rattle.files.specs.declared.Cursor.{Cursor}
use Rattle.checker.specs.Cursors.{CursorFault}
use Rattle.checker.specs.Moves.{MoveAllowed, MoveFault}

abbrev pub cursor_at : ℕ → ℕ → ℕ → Cursor
cursor_at revision leg place = record { revision = revision; leg = leg; place = place }

-- Plan A has the legs 0, 1 and 2, and leg 0 has the places 0, 1 and 2. A cursor: 7 before 8, 8 before 9; 9 past the places of leg 0, past the end, and past the legs.
pub record CursorRefusalsAtNumbers : Type 0 where
  pub table : CursorFault wrong_leg (cursor_at 6 0 3) cause.BadLeg 1
  pub stale : CursorFault (plan_a_of 7) (cursor_at 6 0 3) cause.StaleCursor 0
  pub no_place_is : CursorFault (plan_a_of 7) (cursor_at 7 0 3) cause.NoPlace 0
  pub past_the_end : CursorFault (plan_a_of 7) (cursor_at 7 3 1) cause.NoPlace 0
  pub past_the_legs : CursorFault (plan_a_of 7) (cursor_at 7 4 0) cause.NoPlace 0

-- A move, to any offset, 8 periods late: 8 and 9 before 10, 10 before 11, 11 before 17, and 17 where the revision can rise; 7 periods are not refused.
pub record MoveRefusalsAtNumbers : Type 0 where
  pub table : (offset : ℕ) → MoveFault wrong_leg (cursor_at 6 0 3) (move_to 3 offset 8) cause.BadLeg 1
  pub stale : (offset : ℕ) → MoveFault (plan_a_of 4294967295) (cursor_at 6 0 3) (move_to 3 offset 8) cause.StaleCursor 0
  pub no_place_is : (offset : ℕ) → MoveFault (plan_a_of 4294967295) (cursor_at 4294967295 0 3) (move_to 3 offset 8) cause.NoPlace 0
  pub no_leg_is : (offset : ℕ) → MoveFault (plan_a_of 4294967295) (cursor_at 4294967295 0 2) (move_to 3 offset 8) cause.NoLeg 0
  pub cannot_rise_is : (offset : ℕ) → MoveFault (plan_a_of 4294967295) (cursor_at 4294967295 3 0) (move_to 2 offset 8) cause.CannotRise 0
  pub too_late_is : (offset : ℕ) → MoveFault (plan_a_of 4294967294) (cursor_at 4294967294 3 0) (move_to 2 offset 8) cause.TooLate 0
  pub latest : (offset : ℕ) → MoveAllowed (plan_a_of 4294967294) (cursor_at 4294967294 3 0) (move_to 2 offset 7)
