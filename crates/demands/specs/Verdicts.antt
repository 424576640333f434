-- Verdicts (document 01, "Places and slices"): violated, with its place and rule, or nothing violated; paused and refused are none.
use Rattle.std.specs.Prelude.{ℕ, ◌≡◌, List}
use Rattle.rules.specs.Rules.{RulesHold}
use Rattle.rules.specs.Places.{rule_at, PlaceHolds}
use Rattle.rules.specs.declared.Rule.{Rule}
use Rattle.places.specs.Order.{Earlier, IsPlace}
use Rattle.checker.specs.declared.SliceAnswer.{SliceAnswer}
use Rattle.checker.specs.declared.SliceAnswer.TheVariants as answer

-- Place (a,p) is violated, and by which rule; or nothing is.
pub data Verdict : Type 0 where
  violated : ℕ → ℕ → Rule → Verdict
  nothing_violated : Verdict

-- The verdict that an answer gives, if it gives one. Steps are no part of it.
abbrev pub Gives : SliceAnswer → Verdict → Type 0
Gives (answer.Violated d n r) v = v ≡ violated d.leg d.place r
Gives (answer.NothingViolated d n) v = v ≡ nothing_violated
Gives (answer.Paused d n) v = ⊥
Gives (answer.Refused f d) v = ⊥

-- (a,p) is the first violated place of table t.
pub record FirstViolated (t : List ℕ) (a p : ℕ) : Type 0 where
  pub place : IsPlace t a p
  pub broken : PlaceHolds t a p → ⊥
  pub before : (b q : ℕ) → IsPlace t b q → Earlier b q a p → PlaceHolds t b q

-- What the rules, in their unending meaning, say of table t: the first violated place and its rule, or that they hold.
abbrev pub RightVerdict : List ℕ → Verdict → Type 0
RightVerdict t (violated a p r) = FirstViolated t a p × (r ≡ rule_at p)
RightVerdict t nothing_violated = RulesHold t
