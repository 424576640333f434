-- Whether the stream can be added. Assumes nothing.
use Prim.Native.Nat.{ℕ, ◌+◌, ◌-◌, ◌*◌, ◌≤◌, ◌<◌}
use mathlib.Core.Path.{◌≡◌, ◌∙◌, sym, ap, subst}
use mathlib.Core.List.{List}
use lib.ListN.{length, take}
use native.Mathlib.Omega.{arith}
use Rattle.std.specs.Prelude.{Result, Ok, Err, IsTrue, ◌↔◌, is_ok, false}
use Rattle.basics.specs.declared.Refusal.{Refusal}
use Rattle.numbers.specs.Series.{overlaid}
use Rattle.numbers.proofs.Overlay.{overlaid_taken}
use Rattle.table.specs.Layout.{max_streams, max_legs, stream_words, leg_words, stream_count, leg_count, table_words}
use Rattle.shape.specs.Shape.{WellFormedTable, ShapeFault, ShapeTold}
use Rattle.shape.proofs.OneShape.{well_no_fault}
use Rattle.shape.proofs.Tests.{is_true, is_false}
use Rattle.enlarge.specs.Enlarged.{without_times}
use Rattle.enlarge.specs.declared.Wanted.{Wanted}
use Rattle.enlarge.proofs.Grown.{grown_long}
use Rattle.enlarge.proofs.NewLegs.{zero_length}
use Rattle.enlarge.proofs.Ranges.{wanted_in_range}
use Rattle.admission.specs.Admits.{CanAdd}
use Rattle.admission.specs.Steps.{CanRise}

-- Whether the stream can be added: not where there are as many streams or legs as there may be, and otherwise by the table with it, laid into words of the function's own.
module _ {t : List ℕ} (w : Wanted) (route : List ℕ) (r : CanRise t) where
  pub full_streams : {n : ℕ} → n ≡ stream_count t → max_streams ≤ n → IsTrue false ↔ CanAdd t w route
  full_streams is full = is_false (λ can. omega (arith, (wanted_in_range t w route r.shape.sized can).streams))

  pub full_legs : {n : ℕ} → n ≡ leg_count t → max_legs - n < length route → IsTrue false ↔ CanAdd t w route
  full_legs is full = is_false (λ can. omega (arith, (wanted_in_range t w route r.shape.sized can).legs))

  module _ (own : List ℕ) {own' : List ℕ} {n : ℕ} (laid : own' ≡ overlaid own 0 (without_times t w route)) (is : n ≡ table_words t + stream_words + leg_words * length route) where
    pub laid_whole : take n own' ≡ without_times t w route
    laid_whole =
        let long : n ≡ length (without_times t w route) = is ∙ sym (grown_long t w (length route) _ r.shape.sized (zero_length t route)) in
        ap (λ (m : ℕ). take m own') long ∙ ap (take (length (without_times t w route))) laid ∙ overlaid_taken own (without_times t w route)

    pub laid_long : n ≡ length (take n own')
    laid_long = is ∙ sym (grown_long t w (length route) _ r.shape.sized (zero_length t route)) ∙ sym (ap length laid_whole)

    -- It is judged well-formed just where the stream can be added.
    pub judged_can : (r : Result (Unit {0}) Refusal) → ShapeTold (take n own') r → IsTrue (is_ok r) ↔ CanAdd t w route
    judged_can (Ok v) s = is_true (subst WellFormedTable laid_whole s)
    judged_can (Err e) s = is_false (λ can. well_no_fault can (subst (λ (u : List ℕ). ShapeFault u e.cause e.at) laid_whole s))

-- How many legs the route has, where it can be added.
pub few_legs : {t : List ℕ} (w : Wanted) (route : List ℕ) → WellFormedTable t → CanAdd t w route → length route ≤ max_legs
few_legs {t} w route shape can = omega (arith, (wanted_in_range t w route shape.sized can).legs)
