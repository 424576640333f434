-- With which causes and at which positions a slice and a move are refused: those of the table, and 8 to 11 and 17 at 0. Assumes nothing.
use Prim.Native.Nat.{ℕ, ◌≤◌}
use mathlib.Core.Path.{ap}
use mathlib.Core.List.{List}
use mathlib.Core.Logic.{inl, inr}
use native.Mathlib.Omega.{arith}
use Rattle.basics.specs.Cause.{number_of}
use Rattle.basics.specs.declared.Cause.{Cause}
use Rattle.basics.specs.declared.Cause.TheVariants as cause
use Rattle.table.specs.Layout.{Sized}
use Rattle.table.specs.declared.Move.{Move}
use Rattle.files.specs.declared.Cursor.{Cursor}
use Rattle.shape.specs.OfTables.{OfTable}
use Rattle.shape.proofs.Refused.{of_table, largest_of_table, shape_of_table, sized_refused}
use Rattle.checker.specs.Cursors.{CursorFault}
use Rattle.checker.specs.Moves.{MoveFault}

pub cursor_of_table : (t : List ℕ) (c : Cursor) (k : Cause) (p : ℕ) → CursorFault t c k p → OfTable k p
cursor_of_table t c k p (inl f) = shape_of_table t k p f
cursor_of_table t c k p (inr (a, inl x)) = of_table cause.StaleCursor (omega arith) (λ b. omega (arith, b)) x.0 (omega (arith, x.1))
cursor_of_table t c k p (inr (a, inr (b, x))) = of_table cause.NoPlace (omega arith) (λ h. omega (arith, h)) x.0 (omega (arith, x.1))

pub move_of_table : (t : List ℕ) (c : Cursor) (mv : Move) (k : Cause) (p : ℕ) → MoveFault t c mv k p → OfTable k p
move_of_table t c mv k p (inl f) = cursor_of_table t c k p f
move_of_table t c mv k p (inr (a, inl x)) = of_table cause.NoLeg (omega arith) (λ b. omega (arith, b)) x.0 (omega (arith, x.1))
move_of_table t c mv k p (inr (a, inr (b, inl x))) = of_table cause.CannotRise (omega arith) (λ h. omega (arith, h)) x.0 (omega (arith, x.1))
move_of_table t c mv k p (inr (a, inr (b, inr (d, x)))) = largest_of_table x.0 (omega (arith, x.1))

-- Of a table of the right size.
pub slice_refused : (t : List ℕ) (c : Cursor) (k : Cause) (p : ℕ) → Sized t → CursorFault t c k p → number_of cause.BadLink ≤ number_of k
slice_refused t c k p z (inl f) = (sized_refused t k p z f).0
slice_refused t c k p z (inr (a, inl x)) = omega (arith, ap number_of x.0)
slice_refused t c k p z (inr (a, inr (b, x))) = omega (arith, ap number_of x.0)

pub move_refused : (t : List ℕ) (c : Cursor) (mv : Move) (k : Cause) (p : ℕ) → Sized t → MoveFault t c mv k p → number_of cause.BadLink ≤ number_of k
move_refused t c mv k p z (inl f) = slice_refused t c k p z f
move_refused t c mv k p z (inr (a, inl x)) = omega (arith, ap number_of x.0)
move_refused t c mv k p z (inr (a, inr (b, inl x))) = omega (arith, ap number_of x.0)
move_refused t c mv k p z (inr (a, inr (b, inr (d, x)))) = omega (arith, ap number_of x.0)
