-- A survey notes the violated places in order, so that the first of all comes first. Assumes nothing.
use Prim.Native.Nat.{ℕ}
use mathlib.Core.Path.{◌≡◌, refl, sym, ap}
use mathlib.Core.List.{List, [], ◌∷◌}
use mathlib.Core.Logic.{inl, inr}
use Rattle.recheck.specs.Listed.{place_at}
use Rattle.recheck.specs.Theorems.{In}
use Rattle.recheck.specs.declared.Place.{Place}
use Rattle.survey.specs.Theorems.{AllViolated}
use Rattle.survey.specs.Survey.{noted}
use Rattle.survey.proofs.Telling.{surveys_tell_all, nothing_noted}
use Rattle.demands.specs.Verdicts.{FirstViolated}
use Rattle.demands.specs.Surveys.{SurveysAgree}
use Rattle.demands.proofs.DemandTwo.{demand_two}
use Rattle.demands.proofs.Explanations.{named}

-- Among all violated places in order, the first of all is in front: none comes before it.
in_front : (t : List ℕ) (a p : ℕ) (qs : List Place) → FirstViolated t a p → AllViolated t qs → In (place_at a p) qs → (later : List Place) × (qs ≡ place_at a p ∷ later)
in_front t a p [] first all i = absurd i
in_front t a p (q ∷ qs) first all (inl e) = (qs, ap (λ (x : Place). x ∷ qs) (sym e))
in_front t a p (q ∷ qs) first all (inr i) =
    absurd (all.violated q (inl refl) (first.before q.leg q.place (all.places_is q (inl refl)) (all.in_order.0 (place_at a p) i)))

pub surveys_agree : SurveysAgree
surveys_agree = record {
  first = λ t r a p s c answers w g start h.
      let is = named t r a p s w g in
      let all = surveys_tell_all t c answers start h in
      in_front t a p (noted answers) is all (all.all a p is.place is.broken);
  none = λ t r c answers w g start h. nothing_noted.nothing t c answers start h ((demand_two.checks t r w).rules_hold g);
}
