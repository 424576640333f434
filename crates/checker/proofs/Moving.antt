-- A move that can be made leaves a well-formed table, in which its own leg and the revision alone are new. Assumes nothing.
use Prim.Native.Nat.{ℕ, ◌+◌, ◌<◌}
use mathlib.Core.Path.{◌≡◌}
use mathlib.Core.List.{List}
use Rattle.table.specs.Layout.{revision_of, leg_count}
use Rattle.table.specs.Records.{leg_at, moved}
use Rattle.table.specs.declared.Move.{Move}
use Rattle.table.proofs.Moved.{moved_revision, moved_legs, moved_other}
use Rattle.shape.specs.Shape.{WellFormedTable}
use Rattle.shape.specs.Moves.{SameButMoved}
use Rattle.shape.proofs.Moved.{moves_keep_shape, moved_same}
use Rattle.checker.specs.Moves.{CanMove}

module _ {t : List ℕ} {mv : Move} (w : WellFormedTable t) (can : CanMove t mv) where
  pub same_but_moved : SameButMoved t (moved t mv)
  same_but_moved = moved_same t w mv can.below can.periods

  pub shape_moved : WellFormedTable (moved t mv)
  shape_moved = moves_keep_shape t (moved t mv) same_but_moved w

  pub revision_moved : revision_of (moved t mv) ≡ revision_of t + 1
  revision_moved = moved_revision t w.sized mv can.below

  pub legs_moved : leg_count (moved t mv) ≡ leg_count t
  legs_moved = moved_legs t w.sized mv can.below

  pub other_leg : (b : ℕ) → b < leg_count t → (b ≡ mv.leg → ⊥) → leg_at (moved t mv) b ≡ leg_at t b
  other_leg b h n = moved_other t w.sized mv can.below b h n
