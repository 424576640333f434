-- The places of one leg, one after the other. Assumes nothing.
use Prim.Native.Nat.{ℕ, ◌≤◌, ◌<◌}
use mathlib.Core.Path.{◌≡◌}
use mathlib.Core.List.{List}
use native.Mathlib.Omega.{arith}
use Rattle.table.specs.Layout.{max_legs, leg_count}
use Rattle.shape.specs.Guarantees.{Guarantees}
use Rattle.rules.specs.Places.{pair_place, places_of}
use Rattle.rules.proofs.Pairs.{pairs_hold}
use Rattle.places.specs.Told.{LegHolds, BrokenFrom, WholeFrom, NextPlace}

-- Each turn: the places of leg a from p on and below q were passed.
pub record Passed (t : List ℕ) (a p q : ℕ) : Type 0 where
  pub from : p ≤ q
  pub held : LegHolds t a p q

-- The next place is the first with the leg that was found along the chain.
pub next_along : {t : List ℕ} {a n m b q x s : ℕ} → BrokenFrom t a n m b → q ≡ x → x ≡ pair_place n → s ≡ pair_place b → NextPlace t a q s
next_along {t} {a} {n} {b = b} w e f g = record {
  from = omega (arith, w.above);
  held = λ z l h. pairs_hold t a n b w.before z (omega arith) (omega arith);
}

-- The first leg whose places are all between these is a leg of the table, or the one after the last.
pub whole_is_leg : {t : List ℕ} {a p n limit : ℕ} → WholeFrom p n → Guarantees t → a < leg_count t → p ≤ limit → limit ≤ places_of a → n ≤ max_legs
whole_is_leg {a = a} w g leg h k = omega (arith, w.lowest a (omega arith), g.sized.limits.legs)
