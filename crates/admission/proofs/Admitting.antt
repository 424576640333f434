-- What may be looked for may be laid. Assumes nothing.
use Prim.Native.Nat.{ℕ, ◌≤◌}
use mathlib.Core.List.{List}
use lib.ListN.{length}
use native.Mathlib.Omega.{arith}
use Rattle.table.specs.Layout.{max_legs}
use Rattle.shape.proofs.Placed.{well_formed_guarantees}
use Rattle.offsets.specs.Search.{LeastFrom}
use Rattle.enlarge.specs.Steps.{Addable, Sends}
use Rattle.enlarge.specs.declared.Wanted.{Wanted}
use Rattle.enlarge.proofs.NewLegs.{start_shift}
use Rattle.enlarge.proofs.Ranges.{wanted_in_range, addable, wanted_sends}
use Rattle.admission.specs.Admits.{MayAdmit, Fits}
use Rattle.admission.specs.Steps.{Ready}
use Rattle.admission.proofs.Fitting.{fits_by_legs}

module _ {t : List ℕ} {w : Wanted} {route : List ℕ} {room : ℕ} (may : MayAdmit t w route room) where
  pub may_look : Ready t w route
  may_look = record { shape = may.shape; can_add = may.can_add; rules = may.rules }

  pub may_lay : Addable t (length route) room
  may_lay = addable (wanted_in_range t w route may.shape.sized may.can_add) may.shape.sized may.rises may.has_room

  pub few_legs_may : length route ≤ max_legs
  few_legs_may = omega (arith, (wanted_in_range t w route may.shape.sized may.can_add).legs)

  -- The legs of an offset that fits have period words.
  pub may_send : {limit from x : ℕ} → LeastFrom (Fits t w route) limit from x → Sends t w route x
  may_send {x = x} found =
      wanted_sends (wanted_in_range t w route may.shape.sized may.can_add) (well_formed_guarantees t may.shape)
      (λ j h. omega (arith, (fits_by_legs t w route may_look x found.has).soon j h, start_shift t w x route j))
