-- The places in order, and the steps between two of them (document 01, "Places and slices").
use Rattle.std.specs.Prelude.{ℕ, zero, suc, ◌+◌, ◌*◌, ◌-◌, ◌/◌, ◌≤◌, ◌<◌, ◌≡◌, List, ◌⊎◌}
use Rattle.table.specs.Layout.{leg_count}
use Rattle.rules.specs.Places.{places_of, PlaceHolds}

-- How many places the legs below a have.
unfoldable pub places_below : ℕ → ℕ
places_below zero = 0
places_below (suc a) = places_below a + places_of a

-- Order: by a, then by the second number.
abbrev pub Earlier : ℕ → ℕ → ℕ → ℕ → Type 0
Earlier a p b q = (a < b) ⊎ ((a ≡ b) × (p < q))

-- So many places come before (a,p): their ranks are the numbers below this one, each once (RanksCountPlaces and OrderIsByLeg, specs/Theorems.antt).
abbrev pub rank : ℕ → ℕ → ℕ
rank a p = places_below a + p

-- (a,p) is a place of table t.
pub record IsPlace (t : List ℕ) (a p : ℕ) : Type 0 where
  pub leg : a < leg_count t
  pub place : p < places_of a

-- The end is (G,0).
pub record IsEnd (t : List ℕ) (a p : ℕ) : Type 0 where
  pub leg : a ≡ leg_count t
  pub place : p ≡ 0

-- A cursor stands at a place or at the end.
abbrev pub PlaceOrEnd : List ℕ → ℕ → ℕ → Type 0
PlaceOrEnd t a p = IsPlace t a p ⊎ IsEnd t a p

-- The number of places of table t.
abbrev pub place_count : List ℕ → ℕ
place_count t = places_below (leg_count t)

-- So many legs make so many pairs.
abbrev pub pairs_of : ℕ → ℕ
pairs_of g = g * (g - 1) / 2

-- Every place of rank from n up to but without m holds.
abbrev pub HoldFrom : List ℕ → ℕ → ℕ → Type 0
HoldFrom t n m = (a p : ℕ) → IsPlace t a p → n ≤ rank a p → rank a p < m → PlaceHolds t a p
