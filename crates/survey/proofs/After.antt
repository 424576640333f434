-- The place after a place, within a leg and past its last place. Assumes nothing.
use Prim.Native.Nat.{ℕ, ◌+◌, ◌≤◌, ◌<◌}
use mathlib.Core.Path.{◌≡◌, refl}
use mathlib.Core.List.{List}
use mathlib.Core.Logic.{inl, inr, ⊎_elim}
use native.Mathlib.Omega.{arith}
use Rattle.basics.proofs.Splits.{lt_or_ge}
use Rattle.table.specs.Layout.{leg_count}
use Rattle.files.specs.declared.Cursor.{Cursor}
use Rattle.rules.specs.Places.{places_of}
use Rattle.places.specs.Order.{IsPlace, PlaceOrEnd}
use Rattle.places.proofs.Ranks.{next_leg}
use Rattle.checker.specs.Cursors.{CursorRight}
use Rattle.survey.specs.Survey.{RightAfter}

abbrev cursor : ℕ → ℕ → ℕ → Cursor
cursor v a p = record { revision = v; leg = a; place = p }

-- The first place of a leg, or the end after the last leg.
first_of_lem : {t : List ℕ} {a : ℕ} → a ≤ leg_count t → PlaceOrEnd t a 0
first_of_lem {t} {a} h = ⊎_elim
    (λ (l : a < leg_count t). inl (record { leg = l; place = omega arith }))
    (λ (g : leg_count t ≤ a). inr (record { leg = omega arith; place = refl }))
    (lt_or_ge a (leg_count t))

pub past_leg : {t : List ℕ} {d : Cursor} → CursorRight t d → IsPlace t d.leg d.place → places_of d.leg ≤ d.place + 1
    → CursorRight t (cursor d.revision (d.leg + 1) 0) × RightAfter t d (cursor d.revision (d.leg + 1) 0)
past_leg {t} {d} c i h =
    let stands : PlaceOrEnd t (d.leg + 1) 0 = first_of_lem (omega (arith, i.leg)) in
    let last : d.place + 1 ≡ places_of d.leg = omega (arith, i.place) in (
      record { shape = c.shape; revision = c.revision; stands = stands },
      record { revision = refl; stands = stands; next = omega (arith, next_leg d.leg) },
    )
