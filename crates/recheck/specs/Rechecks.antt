-- What a recheck promises, by the cases of its answer (document 02, L6). It answers from the list of places at which leg m can be read alone.
use Rattle.std.specs.Prelude.{ℕ, ◌+◌, ◌<◌, ◌≡◌, List, [], ◌∷◌, ◌++◌, length, Result, Ok, Err}
use Rattle.basics.specs.Refusals.{Refusals, unless, ◌then◌, ◌called◌}
use Rattle.basics.specs.declared.Cause.TheVariants as cause
use Rattle.basics.specs.declared.Refusal.{Refusal}
use Rattle.table.specs.Layout.{leg_count}
use Rattle.shape.specs.Shape.{WellFormedTable, shape_refusals}
use Rattle.rules.specs.Places.{rule_at, PlaceHolds}
use Rattle.recheck.specs.Listed.{listed}
use Rattle.recheck.specs.declared.Place.{Place}
use Rattle.recheck.specs.declared.Rechecked.{Rechecked}
use Rattle.recheck.specs.declared.Rechecked.TheVariants.{Violated, NothingViolated}

-- A leg can be rechecked: the table is well-formed and has that leg.
pub record CanRecheck (t : List ℕ) (m : ℕ) : Type 0 where
  pub shape : WellFormedTable t
  pub leg : m < leg_count t

-- The refusals in their order: 1 to 7, then 10.
abbrev pub recheck_refusals : List ℕ → ℕ → Refusals
recheck_refusals t m = shape_refusals t then unless cause.NoLeg (m < leg_count t) called CanRecheck t m

-- All places of a list hold.
abbrev pub AllHold : List ℕ → List Place → Type 0
AllHold t [] = Unit {0}
AllHold t (q ∷ qs) = PlaceHolds t q.leg q.place × AllHold t qs

-- q is the first place of a list that is violated, and the n-th of it.
pub record FirstOf (t : List ℕ) (places : List Place) (q : Place) (n : ℕ) : Type 0 where
  pub before : List Place
  pub after : List Place
  pub list : places ≡ before ++ (q ∷ after)
  pub held : AllHold t before
  pub broken : PlaceHolds t q.leg q.place → ⊥
  pub number : n ≡ length before + 1

-- A RECHECK of leg m of table t. Violated: q is the first violated place of the list, r its rule, and it is the n-th of the list. Nothing violated: all n places of the list hold. Of other
-- places it says nothing: see specs/Premise.antt.
abbrev pub VerdictOf : List ℕ → ℕ → Rechecked → Type 0
VerdictOf t m (Violated q r n) = CanRecheck t m × FirstOf t (listed t m) q n × (r ≡ rule_at q.place)
VerdictOf t m (NothingViolated n) = CanRecheck t m × AllHold t (listed t m) × (n ≡ length (listed t m))

abbrev pub Rechecks : List ℕ → ℕ → Result Rechecked Refusal → Type 0
Rechecks t m (Ok v) = VerdictOf t m v
Rechecks t m (Err e) = (recheck_refusals t m).Fault e.cause e.at
