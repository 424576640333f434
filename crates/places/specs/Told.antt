-- What is told of the places of one leg.
use Rattle.std.specs.Prelude.{ℕ, ◌≤◌, ◌<◌, ◌≡◌, List, Option, Some, None}
use Rattle.basics.specs.Lowest.{AllFrom, Lowest, Finds}
use Rattle.rules.specs.Places.{rule_at, pair_place, PlaceHolds, PairHolds}
use Rattle.rules.specs.declared.Rule.{Rule}
use Rattle.places.specs.declared.Broken.{Broken}

-- The places of leg a from p on and below q hold.
abbrev pub LegHolds : List ℕ → ℕ → ℕ → ℕ → Type 0
LegHolds t a p q = AllFrom (PlaceHolds t a) p q

-- Place q of leg a, from p on and below the limit, is the lowest that does not hold, and r is its rule.
pub record FirstBroken (t : List ℕ) (a p limit q : ℕ) (r : Rule) : Type 0 where
  pub first : Lowest (PlaceHolds t a) p limit q
  pub rule : r ≡ rule_at q

-- What is told of the places of leg a from p on and below the limit.
abbrev pub ToldOfLeg : List ℕ → ℕ → ℕ → ℕ → Option Broken → Type 0
ToldOfLeg t a p limit (Some b) = FirstBroken t a p limit b.place b.rule
ToldOfLeg t a p limit None = LegHolds t a p limit

-- Of the legs from n on and below m the lowest with which leg a breaks a rule, or that there is none of them.
abbrev pub ToldOfPairs : List ℕ → ℕ → ℕ → ℕ → Option ℕ → Type 0
ToldOfPairs t a n m r = Finds (PairHolds t a) n m r

-- The same, with m for none.
pub record BrokenFrom (t : List ℕ) (a n m b : ℕ) : Type 0 where
  pub above : n ≤ b
  pub inside : b ≤ m
  pub before : AllFrom (PairHolds t a) n b
  pub broken : b < m → PairHolds t a b → ⊥

-- Leg b is the lowest leg such that the first place with it is p or comes after p.
pub record WholeFrom (p b : ℕ) : Type 0 where
  pub from : p ≤ pair_place b
  pub lowest : (c : ℕ) → p ≤ pair_place c → b ≤ c

-- Place s of leg a is the next to be looked at from q on: those before it hold.
pub record NextPlace (t : List ℕ) (a q s : ℕ) : Type 0 where
  pub from : q ≤ s
  pub held : LegHolds t a q s
