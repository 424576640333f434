-- One mask is right at an instant, and the same masks are right for the same slots. Assumes nothing.
use Prim.Native.Nat.{ℕ}
use mathlib.Core.Path.{sym, ◌∙◌}
use Rattle.overlap.specs.declared.Slot.{Slot}
use Rattle.gates.specs.Holding.{Held, Right, held, idle}
use Rattle.gates.specs.Theorems.{OneMaskIsRight}

pub one_mask_is_right : OneMaskIsRight
one_mask_is_right S x a b (held h p) (held _ q) = p ∙ sym q
one_mask_is_right S x a b (held h _) (idle n _) = absurd (n h)
one_mask_is_right S x a b (idle n _) (held h _) = absurd (n h)
one_mask_is_right S x a b (idle _ p) (idle _ q) = p ∙ sym q

-- Two links with the same slots are held at the same instants.
module _ (S Q : Slot → Type 0) (to : (s : Slot) → S s → Q s) (from : (s : Slot) → Q s → S s) where
  pub held_also : (x : ℕ) → Held S x → Held Q x
  held_also x h = record { slot = h.slot; on = to h.slot h.on; turn = h.turn; holds = h.holds }

  pub held_back : (x : ℕ) → Held Q x → Held S x
  held_back x h = record { slot = h.slot; on = from h.slot h.on; turn = h.turn; holds = h.holds }

  pub right_also : (x m : ℕ) → Right S x m → Right Q x m
  right_also x m (held h e) = held (held_also x h) e
  right_also x m (idle n e) = idle (λ h. n (held_back x h)) e
