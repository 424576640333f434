-- What the inner functions of this crate tell.
use Rattle.std.specs.Prelude.{ℕ, ◌+◌, ◌<◌, ◌≡◌, true, List, ◌++◌, length, Result, Ok, Err}
use Rattle.numbers.specs.Number.{max_word}
use Rattle.rules.specs.Places.{places_of, rule_at, PlaceHolds}
use Rattle.rules.specs.Steps.{LegIn}
use Rattle.rules.specs.declared.leg.TimedLeg.{TimedLeg}
use Rattle.rules.specs.declared.Rule.{Rule}
use Rattle.recheck.specs.Listed.{can_read, listed_at, listed_below}
use Rattle.recheck.specs.Rechecks.{AllHold}
use Rattle.recheck.specs.declared.Place.{Place}
use Rattle.recheck.specs.declared.look.BrokenAfter.{BrokenAfter}

-- The places of the list before place p of leg a.
abbrev pub listed_to : List ℕ → ℕ → ℕ → ℕ → List Place
listed_to t m a p = listed_below t m a ++ listed_at t m a p

-- They are n, and all of them hold. One more fits a word.
pub record LookedTo (t : List ℕ) (m a p n : ℕ) : Type 0 where
  pub held : AllHold t (listed_to t m a p)
  pub count : n ≡ length (listed_to t m a p)
  pub few : n < max_word

-- Place p of leg a is the first violated one of the list, r is its rule, and it is the n-th.
pub record BrokenAt (t : List ℕ) (m a p : ℕ) (r : Rule) (n : ℕ) : Type 0 where
  pub passed : ℕ
  pub looked : LookedTo t m a p passed
  pub number : n ≡ passed + 1
  pub leg : LegIn t a
  pub place : p < places_of a
  pub reads : can_read t m a p ≡ true
  pub broken : PlaceHolds t a p → ⊥
  pub rule : r ≡ rule_at p

-- After the places of leg a before place p.
abbrev pub StepTold : List ℕ → ℕ → ℕ → ℕ → Result ℕ BrokenAfter → Type 0
StepTold t m a p (Ok n) = LookedTo t m a p n
StepTold t m a p (Err b) = BrokenAt t m b.leg b.place b.rule b.looked

-- A leg after leg m of the same plan.
pub record Later (m leg : TimedLeg) : Type 0 where
  pub same : m.plan.now ≡ leg.plan.now
  pub above : m.at < leg.at
