-- Two lists of exactly the violated places, both in order, are one. Assumes nothing.
use Prim.Native.Nat.{◌<◌}
use mathlib.Core.Path.{◌≡◌, refl, sym, subst}
use mathlib.Core.List.{List, [], ◌∷◌}
use mathlib.Core.Logic.{inl, inr, ⊎_elim}
use native.Mathlib.Omega.{arith}
use Rattle.places.specs.Order.{Earlier}
use Rattle.recheck.specs.Theorems.{In, InOrder}
use Rattle.recheck.specs.declared.Place.{Place}
use Rattle.survey.specs.Survey.{noted}
use Rattle.survey.specs.Theorems.{OneListOfViolated, SurveyOneAnswer}
use Rattle.survey.proofs.Telling.{surveys_tell_all}

-- Of two places only one comes before the other.
not_both : (q r : Place) → Earlier q.leg q.place r.leg r.place → Earlier r.leg r.place q.leg q.place → ⊥
not_both q r e f = ⊎_elim
    (λ (x : q.leg < r.leg). ⊎_elim (λ (y : r.leg < q.leg). omega arith) (λ (y : (r.leg ≡ q.leg) × (r.place < q.place)). omega (arith, y.0)) f)
    (λ (x : (q.leg ≡ r.leg) × (q.place < r.place)).
    ⊎_elim (λ (y : r.leg < q.leg). omega (arith, x.0)) (λ (y : (r.leg ≡ q.leg) × (r.place < q.place)). omega (arith, x.1, y.1)) f)
    e

-- The heads of two such lists are one: each is in the other list, and nothing there comes before its head.
same_heads : (q r : Place) (qs rs : List Place) → InOrder (q ∷ qs) → InOrder (r ∷ rs) → In q (r ∷ rs) → In r (q ∷ qs) → q ≡ r
same_heads q r qs rs o p i j = ⊎_elim
    (λ (e : q ≡ r). e)
    (λ (k : In q rs). ⊎_elim
    (λ (e : r ≡ q). sym e)
    (λ (l : In r qs). absurd (not_both q r (o.0 r l) (p.0 q k)))
    j)
    i

-- What is in a list after its head is not the head.
in_tail : (q s : Place) (qs rs : List Place) → InOrder (q ∷ qs) → In s qs → In s (q ∷ rs) → In s rs
in_tail q s qs rs o i = ⊎_elim
    (λ (e : s ≡ q). let before = o.0 s i in absurd (not_both q s before (subst (λ (z : Place). Earlier z.leg z.place q.leg q.place) (sym e) (subst (λ (z : Place). Earlier q.leg q.place z.leg z.place) e before))))
    (λ (k : In s rs). k)

same_lists : (qs rs : List Place) → InOrder qs → InOrder rs → ((s : Place) → In s qs → In s rs) → ((s : Place) → In s rs → In s qs) → qs ≡ rs
same_lists [] [] o p to from = refl
same_lists [] (r ∷ rs) o p to from = absurd (from r (inl refl))
same_lists (q ∷ qs) [] o p to from = absurd (to q (inl refl))
same_lists (q ∷ qs) (r ∷ rs) o p to from =
    let e = same_heads q r qs rs o p (to q (inl refl)) (from r (inl refl)) in
    let tails = same_lists qs rs o.1 p.1
    (λ s i. in_tail q s qs rs o i (subst (λ (z : Place). In s (z ∷ rs)) (sym e) (to s (inr i))))
    (λ s i. in_tail r s rs qs p i (subst (λ (z : Place). In s (z ∷ qs)) e (from s (inr i)))) in
    cc

pub one_list_of_violated : OneListOfViolated
one_list_of_violated t qs rs f g = same_lists qs rs f.in_order g.in_order
    (λ s i. g.all s.leg s.place (f.places_is s i) (f.violated s i))
    (λ s i. f.all s.leg s.place (g.places_is s i) (g.violated s i))

pub survey_one_answer : SurveyOneAnswer
survey_one_answer t c d one other s u v w = one_list_of_violated t (noted one) (noted other) (surveys_tell_all t c one s v) (surveys_tell_all t d other u w)
