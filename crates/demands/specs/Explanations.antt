-- Explanations in the words of demand 2: what margins, meetings and the nearest offsets tell of the place that a whole check names, and of a place that holds.
use Rattle.margins.specs.declared.At.{At}
use Rattle.std.specs.Prelude.{ℕ, ◌≤◌, ◌≡◌, List, ◌⊎◌, Result, Ok, Option, Some}
use Rattle.basics.specs.declared.Refusal.{Refusal}
use Rattle.rules.specs.Places.{pair_place, PlaceHolds}
use Rattle.rules.specs.declared.Rule.{Rule}
use Rattle.checker.specs.declared.SliceAnswer.{SliceAnswer}
use Rattle.repeats.specs.declared.Meeting.{Meeting}
use Rattle.meeting.specs.Meets.{Meets}
use Rattle.margins.specs.Asking.{CanAsk}
use Rattle.margins.specs.Margins.{Margins}
use Rattle.margins.specs.declared.Margin.{Margin}
use Rattle.margins.specs.declared.Spare.TheVariants as spare
use Rattle.demands.specs.Verdicts.{violated, Gives}
use Rattle.demands.specs.DemandTwo.{WholeCheck}

-- It is told that at least 1 ns is lacking.
pub record Lacking (r : Result At Refusal) : Type 0 where
  pub numbers : Margin
  pub lacks : ℕ
  pub some : 1 ≤ lacks
  pub told : r ≡ Ok (record { margin = numbers; spare = spare.Lacks lacks })

-- It is told that nothing is asked, or how much is left.
abbrev pub Sparing : Result At Refusal → Type 0
Sparing r = (m : Margin) × ((r ≡ Ok (record { margin = m; spare = spare.Free })) ⊎ ((n : ℕ) × (r ≡ Ok (record { margin = m; spare = spare.Left n }))))

-- At the violated place that a whole check names, at least 1 ns is lacking, and where it is one of two legs they meet. At a place that holds nothing is lacking.
pub record ExplanationsAgree : Type 0 where
  pub lacking : (t : List ℕ) (r : SliceAnswer) (a p : ℕ) (s : Rule) (told : Result At Refusal) → WholeCheck t r → Gives r (violated a p s) → Margins t a p told → Lacking told
  pub meeting : (t : List ℕ) (r : SliceAnswer) (a b : ℕ) (s : Rule) (told : Result (Option Meeting) Refusal) → WholeCheck t r → Gives r (violated a (pair_place b) s) → Meets t a b told
      → (met : Meeting) × (told ≡ Ok (Some met))
  pub sparing : (t : List ℕ) (a p : ℕ) (told : Result At Refusal) → CanAsk t a p → PlaceHolds t a p → Margins t a p told → Sparing told
