-- Admissions (document 02, L5) in demand 2's words: what is admitted is accepted by a whole check, and with no lesser first offset it would be; where 18 is told, with none at all.
use Rattle.std.specs.Prelude.{ℕ, ◌<◌, ◌≡◌, List, take, Ok, Some}
use Rattle.basics.specs.Cause.{refused}
use Rattle.basics.specs.declared.Cause.TheVariants as cause
use Rattle.enlarge.specs.Enlarged.{enlarged}
use Rattle.enlarge.specs.declared.Wanted.{Wanted}
use Rattle.admission.specs.Admits.{Admits}
use Rattle.checker.specs.declared.SliceAnswer.{SliceAnswer}
use Rattle.demands.specs.Verdicts.{nothing_violated, Gives}
use Rattle.demands.specs.DemandTwo.{WholeCheck}

-- A whole check of the table u gives nothing violated.
pub record Passes (u : List ℕ) : Type 0 where
  pub answer : SliceAnswer
  pub check : WholeCheck u answer
  pub gives : Gives answer nothing_violated

pub record AdmissionsPass : Type 0 where
  -- The first n words of the lent ones are the enlarged table, and whatever a whole check of it answers, it gives nothing violated.
  pub admitted : (t : List ℕ) (w : Wanted) (route out out' : List ℕ) (x n : ℕ) → Admits t w route out (Ok (Some (record { offset = x; words = n }))) out'
      → (take n out' ≡ enlarged t w route x) × ((r : SliceAnswer) → WholeCheck (take n out') r → Gives r nothing_violated)
  -- No table with a lesser first offset passes a whole check.
  pub sooner : (t : List ℕ) (w : Wanted) (route out out' : List ℕ) (x n y : ℕ) → Admits t w route out (Ok (Some (record { offset = x; words = n }))) out' → y < x → Passes (enlarged t w route y) → ⊥
  -- Where 18 is told, no table with a first offset below the period does.
  pub nowhere : (t : List ℕ) (w : Wanted) (route out out' : List ℕ) (p y : ℕ) → Admits t w route out (refused cause.NoOffset p) out' → y < w.period → Passes (enlarged t w route y) → ⊥
