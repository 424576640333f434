-- A survey in the words of demand 2: what it notes first is the verdict of a whole check.
use Rattle.std.specs.Prelude.{ℕ, ◌≡◌, List, [], ◌∷◌, Ok}
use Rattle.files.specs.declared.Cursor.{Cursor}
use Rattle.rules.specs.declared.Rule.{Rule}
use Rattle.checker.specs.Slices.{Starts}
use Rattle.checker.specs.declared.SliceAnswer.{SliceAnswer}
use Rattle.recheck.specs.Listed.{place_at}
use Rattle.recheck.specs.declared.Place.{Place}
use Rattle.survey.specs.Survey.{Surveys, noted}
use Rattle.demands.specs.Verdicts.{violated, nothing_violated, Gives}
use Rattle.demands.specs.DemandTwo.{WholeCheck}

-- A survey from the start on notes first the violated place that a whole check names, and nothing where a whole check names none.
pub record SurveysAgree : Type 0 where
  pub first : (t : List ℕ) (r : SliceAnswer) (a p : ℕ) (s : Rule) (c : Cursor) (answers : List SliceAnswer) → WholeCheck t r → Gives r (violated a p s) → Starts t (Ok c)
      → Surveys t c answers → (later : List Place) × (noted answers ≡ place_at a p ∷ later)
  pub none : (t : List ℕ) (r : SliceAnswer) (c : Cursor) (answers : List SliceAnswer) → WholeCheck t r → Gives r nothing_violated → Starts t (Ok c)
      → Surveys t c answers → noted answers ≡ []
