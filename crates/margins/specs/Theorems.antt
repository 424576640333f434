-- What is proved of margins and of the nearest offsets.
use Rattle.std.specs.Prelude.{ℕ, ◌≡◌, List, Result}
use Rattle.basics.specs.declared.Refusal.{Refusal}
use Rattle.rules.specs.Places.{PlaceHolds}
use Rattle.margins.specs.Asking.{CanAsk}
use Rattle.margins.specs.Margins.{MarginOf, Margins}
use Rattle.margins.specs.Nearest.{Nears}
use Rattle.margins.specs.Spares.{Kept, IsSpare}
use Rattle.margins.specs.declared.Margin.{Margin}
use Rattle.margins.specs.declared.Spare.{Spare}
use Rattle.margins.specs.declared.Spare.TheVariants as spare
use Rattle.margins.specs.declared.At.{At}
use Rattle.margins.specs.declared.Nearest.{Nearest}

-- The numbers decide: a place holds exactly where its numbers keep the rule.
abbrev pub MarginsDecide : Type 0
MarginsDecide = (t : List ℕ) (a p : ℕ) (m : Margin) → CanAsk t a p → MarginOf t a p m → (PlaceHolds t a p → Kept m) × (Kept m → PlaceHolds t a p)

-- What is left, or that nothing is asked, says that the rule is kept; what is lacking says that it is not.
pub record SparesDecide : Type 0 where
  pub free : (m : Margin) → IsSpare m spare.Free → Kept m
  pub left : (m : Margin) (n : ℕ) → IsSpare m (spare.Left n) → Kept m
  pub lacks : (m : Margin) (n : ℕ) → IsSpare m (spare.Lacks n) → Kept m → ⊥

-- One spare, and one answer.
abbrev pub SpareOneAnswer : Type 0
SpareOneAnswer = (m : Margin) (s s' : Spare) → IsSpare m s → IsSpare m s' → s ≡ s'

abbrev pub MarginOneAnswer : Type 0
MarginOneAnswer = (t : List ℕ) (a p : ℕ) (r r' : Result At Refusal) → Margins t a p r → Margins t a p r' → r ≡ r'

abbrev pub NearestOneAnswer : Type 0
NearestOneAnswer = (t : List ℕ) (a p : ℕ) (r r' : Result Nearest Refusal) → Nears t a p r → Nears t a p r' → r ≡ r'
