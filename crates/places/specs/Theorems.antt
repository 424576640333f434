-- What is proved of the order of places.
use Rattle.std.specs.Prelude.{ℕ, ◌+◌, ◌*◌, ◌-◌, ◌/◌, ◌<◌, ◌≡◌, List}
use Rattle.table.specs.Layout.{leg_count}
use Rattle.places.specs.Order.{rank, Earlier, IsPlace, IsEnd, PlaceOrEnd, place_count}

-- There are G(G − 1)/2 + 3G places.
abbrev pub CountOfPlaces : Type 0
CountOfPlaces = (t : List ℕ) → place_count t ≡ leg_count t * (leg_count t - 1) / 2 + 3 * leg_count t

-- Fewer places come before (a,p) than before (b,q) exactly when it is the earlier one.
abbrev pub OrderIsByLeg : Type 0
OrderIsByLeg =
    (t : List ℕ) (a p b q : ℕ) → PlaceOrEnd t a p → PlaceOrEnd t b q
    → (rank a p < rank b q → Earlier a p b q) × (Earlier a p b q → rank a p < rank b q)

-- No two places have the same rank, the end included.
abbrev pub RankIsOne : Type 0
RankIsOne = (t : List ℕ) (a p b q : ℕ) → PlaceOrEnd t a p → PlaceOrEnd t b q → rank a p ≡ rank b q → (a ≡ b) × (p ≡ q)

-- Exactly place_count t places come before the end, and fewer before each place.
abbrev pub EndIsLast : Type 0
EndIsLast = (t : List ℕ) (a p : ℕ) → (IsEnd t a p → rank a p ≡ place_count t) × (IsPlace t a p → rank a p < place_count t)

-- A rank is a count: each number below the number of places is the rank of a place, and of one alone. So the places earlier than (a,p), whose ranks are below
-- its own, are as many as its rank says.
pub record PlaceOfRank (t : List ℕ) (n : ℕ) : Type 0 where
  pub leg : ℕ
  pub place : ℕ
  pub is_place : IsPlace t leg place
  pub ranked : rank leg place ≡ n
  pub only : (b q : ℕ) → IsPlace t b q → rank b q ≡ n → (b ≡ leg) × (q ≡ place)

abbrev pub RanksCountPlaces : Type 0
RanksCountPlaces = (t : List ℕ) (n : ℕ) → n < place_count t → PlaceOfRank t n
