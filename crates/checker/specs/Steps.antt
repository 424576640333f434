-- What the inner functions of this crate tell.
use Rattle.std.specs.Prelude.{ℕ, ◌≤◌, ◌<◌, ◌≡◌, List, Result}
use Rattle.basics.specs.Refusals.{Told}
use Rattle.basics.specs.declared.Refusal.{Refusal}
use Rattle.table.specs.declared.Move.{Move}
use Rattle.files.specs.declared.Cursor.{Cursor}
use Rattle.checker.specs.Cursors.{cursor_refusals}
use Rattle.checker.specs.Moves.{move_refusals}

-- A cursor is right, and a move may be made; or the first refusal is due.
abbrev pub CursorTold : List ℕ → Cursor → Result (Unit {0}) Refusal → Type 0
CursorTold t c a = Told (cursor_refusals t c) a

abbrev pub MoveTold : List ℕ → Cursor → Move → Result (Unit {0}) Refusal → Type 0
MoveTold t c mv a = Told (move_refusals t c mv) a

-- The cursor d has this revision. Its place is that of c, if c is at a lower leg, and otherwise (leg,0).
pub record PulledBack (c : Cursor) (rev leg : ℕ) (d : Cursor) : Type 0 where
  pub revision : d.revision ≡ rev
  pub here : c.leg < leg → (d.leg ≡ c.leg) × (d.place ≡ c.place)
  pub there : leg ≤ c.leg → (d.leg ≡ leg) × (d.place ≡ 0)
