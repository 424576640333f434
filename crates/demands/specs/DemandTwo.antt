-- Demand 2: a whole check accepts a well-formed plan exactly when its window, hop and deadline rules hold and no two frames on one link ever meet,
-- however long the periods repeat. Otherwise it names the first violated place. Plan files read and write back unchanged, words and bytes.
use Rattle.std.specs.Prelude.{ℕ, ◌≤◌, ◌≡◌, List, Result, Ok}
use Rattle.files.specs.declared.Returned.{Returned}
use Rattle.numbers.specs.Number.{max_word}
use Rattle.shape.specs.Shape.{WellFormedTable}
use Rattle.files.specs.Theorems.{FilesComeBack, TablesComeBack}
use Rattle.files.specs.declared.Cursor.{Cursor}
use Rattle.rules.specs.Rules.{RulesHold}
use Rattle.rules.specs.Theorems.{OwnRepeatsNeverMeet}
use Rattle.rules.specs.declared.Rule.{Rule}
use Rattle.places.specs.Order.{place_count}
use Rattle.checker.specs.Slices.{start_cursor, Starts, Slices}
use Rattle.checker.specs.declared.SliceAnswer.{SliceAnswer}
use Rattle.demands.specs.Verdicts.{Verdict, violated, nothing_violated, Gives, FirstViolated, RightVerdict}

-- A whole check is a start and a slice with enough budget.
pub record WholeCheck (t : List ℕ) (r : SliceAnswer) : Type 0 where
  pub cursor : Cursor
  pub budget : ℕ
  pub starts : Starts t (Ok cursor)
  pub enough : place_count t ≤ budget
  pub word : budget ≤ max_word
  pub slices : Slices t cursor budget r

-- It gives a verdict, and that is right. So it accepts exactly when the rules hold, and otherwise names the first violated place.
pub record WholeCheckIsRight (t : List ℕ) (r : SliceAnswer) : Type 0 where
  pub verdict : Verdict
  pub gives : Gives r verdict
  pub right : RightVerdict t verdict
  pub accepts : RulesHold t → Gives r nothing_violated
  pub rules_hold : Gives r nothing_violated → RulesHold t
  pub names : (RulesHold t → ⊥) → (a : ℕ) × (p : ℕ) × (s : Rule) × Gives r (violated a p s) × FirstViolated t a p

-- A well-formed table is granted a start, and its number of places is a budget that can be given. RulesHold speaks of the frames of two legs; those of one leg do not
-- meet where its window holds.
pub record DemandTwo : Type 0 where
  pub starts : (t : List ℕ) (g : Result Cursor Returned) → WellFormedTable t → Starts t g → g ≡ Ok (start_cursor t)
  pub places : (t : List ℕ) → WellFormedTable t → place_count t ≤ max_word
  pub checks : (t : List ℕ) (r : SliceAnswer) → WholeCheck t r → WholeCheckIsRight t r
  pub own_repeats : OwnRepeatsNeverMeet
  pub files : FilesComeBack
  pub tables : TablesComeBack
