-- What is proved of a recheck and of the list that it looks at.
use Rattle.std.specs.Prelude.{ℕ, ◌+◌, ◌≤◌, ◌<◌, ◌≡◌, List, [], ◌∷◌, ◌⊎◌, length, Result, Ok}
use Rattle.basics.specs.declared.Refusal.{Refusal}
use Rattle.table.specs.Layout.{leg_count}
use Rattle.table.specs.Records.{moved}
use Rattle.table.specs.declared.Move.{Move}
use Rattle.shape.specs.Legs.{end_of}
use Rattle.shape.specs.Shape.{WellFormedTable}
use Rattle.rules.specs.Places.{place_of, PlaceHolds}
use Rattle.rules.specs.Reads.{Reads}
use Rattle.rules.specs.declared.Asked.TheVariants as asked
use Rattle.rules.specs.declared.Rule.{Rule}
use Rattle.places.specs.Order.{Earlier, IsPlace}
use Rattle.checker.specs.Accepted.{Accepted}
use Rattle.checker.specs.Moves.{CanMove}
use Rattle.recheck.specs.Listed.{place_at, listed}
use Rattle.recheck.specs.Rechecks.{CanRecheck, Rechecks}
use Rattle.recheck.specs.Premise.{WasAccepted, SameButLeg}
use Rattle.recheck.specs.declared.Place.{Place}
use Rattle.recheck.specs.declared.Rechecked.{Rechecked}
use Rattle.recheck.specs.declared.Rechecked.TheVariants.{Violated, NothingViolated}

-- One answer.
abbrev pub RecheckOneAnswer : Type 0
RecheckOneAnswer = (t : List ℕ) (m : ℕ) (r r' : Result Rechecked Refusal) → Rechecks t m r → Rechecks t m r' → r ≡ r'

-- A place is in a list; and each place of a list comes before all that follow it, so that none is there twice.
abbrev pub In : Place → List Place → Type 0
In q [] = ⊥
In q (r ∷ rs) = (q ≡ r) ⊎ In q rs

abbrev pub InOrder : List Place → Type 0
InOrder [] = Unit {0}
InOrder (q ∷ qs) = ((r : Place) → In r qs → Earlier q.leg q.place r.leg r.place) × InOrder qs

-- The request's own words: the places of leg m, the overlaps with it, the next hop of its stream and its stream's deadline.
abbrev pub Named : List ℕ → ℕ → ℕ → ℕ → Type 0
Named t m a p =
    (a ≡ m)
    ⊎ ((p ≡ place_of (asked.Overlap m))
    ⊎ (((p ≡ place_of asked.Hop) × ((a ≡ m + 1) × (a < end_of t m)))
    ⊎ ((p ≡ place_of asked.Deadline) × (a + 1 ≡ end_of t m))))

-- The list has exactly these places of the table, in order, and each once. No place that reads leg m is missing. It has G + 4 places, or G + 2 where m is the last leg of its stream:
-- then there is no next hop, and the deadline is one of its own places.
pub record ListIsRight (t : List ℕ) (m : ℕ) : Type 0 where
  pub places : (a p : ℕ) → In (place_at a p) (listed t m) → IsPlace t a p × Named t m a p
  pub all : (a p : ℕ) → IsPlace t a p → Named t m a p → In (place_at a p) (listed t m)
  pub readers : (a p : ℕ) → IsPlace t a p → Reads t a p m → In (place_at a p) (listed t m)
  pub in_order : InOrder (listed t m)
  pub last_leg : m + 1 ≡ end_of t m → length (listed t m) ≡ leg_count t + 2
  pub other_leg : m + 1 < end_of t m → length (listed t m) ≡ leg_count t + 4
  pub at_most : length (listed t m) ≤ leg_count t + 4

abbrev pub RecheckListIsRight : Type 0
RecheckListIsRight = (t : List ℕ) (m : ℕ) → CanRecheck t m → ListIsRight t m

-- So many places an answer tells: at least 1, and G + 4 at the most.
pub record RecheckIsShort : Type 0 where
  pub violated : (t : List ℕ) (m : ℕ) (q : Place) (r : Rule) (n : ℕ) → Rechecks t m (Ok (Violated q r n)) → (1 ≤ n) × (n ≤ leg_count t + 4)
  pub nothing : (t : List ℕ) (m n : ℕ) → Rechecks t m (Ok (NothingViolated n)) → (1 ≤ n) × (n ≤ leg_count t + 4)

-- WHAT THE PREMISE IS FOR: with it every place that is not in the list holds, and a recheck that finds nothing violated accepts the whole table.
pub record RecheckSpeaksForAll : Type 0 where
  pub others : (t : List ℕ) (m a p : ℕ) → CanRecheck t m → WasAccepted t m → IsPlace t a p → (In (place_at a p) (listed t m) → ⊥) → PlaceHolds t a p
  pub accepts : (t : List ℕ) (m n : ℕ) → WasAccepted t m → Rechecks t m (Ok (NothingViolated n)) → Accepted t

-- THE PREMISE AND WHAT KEEPS IT.
pub record PremiseIsKept : Type 0 where
  -- It is there exactly where some accepted table is the same but for leg m.
  pub same : (t u : List ℕ) (m : ℕ) → CanRecheck t m → SameButLeg t u m → Accepted u → WasAccepted t m
  pub back : (t : List ℕ) (m : ℕ) → CanRecheck t m → WasAccepted t m → (u : List ℕ) × Accepted u × SameButLeg t u m
  -- So it is there after one move of an accepted table, and after a further move of the same leg.
  pub after_move : (t : List ℕ) (mv : Move) → Accepted t → CanMove t mv → WasAccepted (moved t mv) mv.leg
  pub moved_again : (t : List ℕ) (mv : Move) → WellFormedTable t → WasAccepted t mv.leg → CanMove t mv → WasAccepted (moved t mv) mv.leg
