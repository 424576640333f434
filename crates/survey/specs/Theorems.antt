-- What is proved of surveys.
use Rattle.std.specs.Prelude.{ℕ, ◌≡◌, List, [], Ok}
use Rattle.files.specs.declared.Cursor.{Cursor}
use Rattle.rules.specs.Rules.{RulesHold}
use Rattle.rules.specs.Places.{PlaceHolds}
use Rattle.places.specs.Order.{IsPlace}
use Rattle.checker.specs.Slices.{Starts}
use Rattle.checker.specs.declared.SliceAnswer.{SliceAnswer}
use Rattle.recheck.specs.Listed.{place_at}
use Rattle.recheck.specs.Theorems.{In, InOrder}
use Rattle.recheck.specs.declared.Place.{Place}
use Rattle.survey.specs.Survey.{Surveys, noted}

-- These are exactly the violated places of table t, in order, and each once.
pub record AllViolated (t : List ℕ) (places : List Place) : Type 0 where
  pub places_is : (q : Place) → In q places → IsPlace t q.leg q.place
  pub violated : (q : Place) → In q places → PlaceHolds t q.leg q.place → ⊥
  pub all : (a p : ℕ) → IsPlace t a p → (PlaceHolds t a p → ⊥) → In (place_at a p) places
  pub in_order : InOrder places

-- A survey from the start on notes exactly the violated places.
abbrev pub SurveysTellAll : Type 0
SurveysTellAll = (t : List ℕ) (c : Cursor) (answers : List SliceAnswer) → Starts t (Ok c) → Surveys t c answers → AllViolated t (noted answers)

-- There is one such list, so that however the budgets were chosen, every survey notes the same.
abbrev pub OneListOfViolated : Type 0
OneListOfViolated = (t : List ℕ) (qs rs : List Place) → AllViolated t qs → AllViolated t rs → qs ≡ rs

abbrev pub SurveyOneAnswer : Type 0
SurveyOneAnswer =
    (t : List ℕ) (c d : Cursor) (one other : List SliceAnswer) → Starts t (Ok c) → Starts t (Ok d) → Surveys t c one → Surveys t d other → noted one ≡ noted other

-- It notes nothing exactly where the rules hold.
pub record NothingNoted : Type 0 where
  pub holds : (t : List ℕ) (c : Cursor) (answers : List SliceAnswer) → Starts t (Ok c) → Surveys t c answers → noted answers ≡ [] → RulesHold t
  pub nothing : (t : List ℕ) (c : Cursor) (answers : List SliceAnswer) → Starts t (Ok c) → Surveys t c answers → RulesHold t → noted answers ≡ []
