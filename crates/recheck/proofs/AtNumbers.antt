-- Rechecks of Plan A. Assumes nothing.
use Prim.Native.Nat.{ℕ, ◌+◌, ◌<◌}
use mathlib.Core.Path.{◌≡◌, refl, ◌∙◌, sym, ap, subst}
use mathlib.Core.List.{List, [], ◌∷◌}
use mathlib.Core.Logic.{inl, inr}
use native.Mathlib.Omega.{arith}
use Rattle.table.specs.Records.{stream_at, leg_at, moved, move_to}
use Rattle.table.specs.PlanA.{PlanReadsSo, offsets_a, plan_a, hold_a, plan_with, revised_a}
use Rattle.table.specs.declared.Leg.{Leg}
use Rattle.table.specs.declared.Stream.{Stream}
use Rattle.table.proofs.MovedPlans.{moved_2}
use Rattle.table.proofs.PartLaws.{plans_read_so}
use Rattle.shape.specs.Legs.{end_of}
use Rattle.shape.proofs.AtNumbers.{plan_a_is_well_formed}
use Rattle.rules.specs.Places.{PlaceHolds}
use Rattle.rules.specs.Rules.{RulesHold}
use Rattle.rules.specs.declared.Asked.TheVariants as asked
use Rattle.rules.proofs.CasePlaces.{before_meeting, all_hold, meets_at_2_3}
use Rattle.rules.proofs.Covering.{places_cover_the_rules}
use Rattle.rules.proofs.Pairs.{other_pairs, pairs_hold}
use Rattle.rules.proofs.Placing.{place_rule}
use Rattle.places.specs.Order.{IsPlace}
use Rattle.recheck.specs.Listed.{place_at, listed}
use Rattle.recheck.specs.Rechecks.{CanRecheck, AllHold}
use Rattle.recheck.specs.Steps.{LookedTo}
use Rattle.recheck.specs.Theorems.{In, Named}
use Rattle.recheck.specs.AtNumbers.{RechecksAtNumbers}
use Rattle.recheck.specs.declared.Place.{Place}
use Rattle.recheck.proofs.Counting.{last_leg_count}
use Rattle.recheck.proofs.Looking.{leg_in_lem, looked_none, looked_more, looked_broken, broken_first}
use Rattle.recheck.proofs.Readers.{listed_place}
use Rattle.recheck.proofs.Speaking.{recheck_speaks_for_all}
use Rattle.recheck.proofs.Stepping.{own_read}

reads : PlanReadsSo (offsets_a 0 1176 0)
reads = plans_read_so (offsets_a 0 1176 0)

can : (m : ℕ) → m < 3 → CanRecheck plan_a m
can m h = record { shape = plan_a_is_well_formed 0 1176 0; leg = h }

-- Stream 0 ends before leg 2.
end_1 : end_of plan_a 1 ≡ 2
end_1 = ap (λ (s : Stream). s.first + s.count) (ap (λ (l : Leg). stream_at plan_a l.stream) reads.leg_1 ∙ reads.stream_0)

-- Legs 1 and 2 take different links.
apart_2_1 : PlaceHolds plan_a 2 4
apart_2_1 =
    pairs_hold plan_a 2 1 2
    (λ b from below. other_pairs plan_a 2 b (λ e.
    let b1 : b ≡ 1 = omega arith in
    let x : ◌≡◌ {A = ℕ} 1 0 = sym (ap (λ (l : Leg). l.link) reads.leg_1) ∙ subst (λ (c : ℕ). (leg_at plan_a c).link ≡ (leg_at plan_a 2).link) b1 e ∙ ap (λ (l : Leg). l.link) reads.leg_2 in
    omega arith))
    4 (omega arith) (omega arith)

named_holds : (a p : ℕ) → IsPlace plan_a a p → Named plan_a 1 a p → PlaceHolds plan_a a p
named_holds a p i (inl e) = before_meeting 0 0 (omega arith) a p i.leg i.place (λ h. absurd (omega arith))
named_holds a p i (inr (inl e)) =
    let two : 2 ≡ a = omega (arith, i.leg, i.place, e) in
    let four : 4 ≡ p = omega (arith, e) in
    rw (sym two, sym four) apart_2_1
named_holds a p i (inr (inr (inl (e, x)))) = absurd (omega (arith, x.0, x.1, end_1))
named_holds a p i (inr (inr (inr (e, x)))) = before_meeting 0 0 (omega arith) a p i.leg i.place (λ h. absurd (omega (arith, x, end_1)))

all_of : (t : List ℕ) (l : List Place) → ((q : Place) → In q l → PlaceHolds t q.leg q.place) → AllHold t l
all_of t [] h = tt
all_of t (q ∷ l) h = (h q (inl refl), all_of t l (λ r i. h r (inr i)))

not_listed : In (place_at 2 3) (listed plan_a 1) → ⊥
not_listed i = unnamed (listed_place plan_a 1 (can 1 (omega arith)) 2 3 i).1
  where
    unnamed : Named plan_a 1 2 3 → ⊥
    unnamed (inl e) = omega (arith, e)
    unnamed (inr (inl e)) = omega (arith, e)
    unnamed (inr (inr (inl (e, x)))) = omega (arith, e)
    unnamed (inr (inr (inr (e, x)))) = omega (arith, e)

-- One own place of leg 2 after the other.
own_more : (p : ℕ) → p < 3 → LookedTo plan_a 2 2 p p → LookedTo plan_a 2 2 (p + 1) (p + 1)
own_more p h k =
    looked_more (leg_in_lem (can 2 (omega arith)) (omega arith)) (omega arith) (own_read plan_a 2 p) k (before_meeting 0 0 (omega arith) 2 p (omega arith) (omega arith) (λ e. h))

three_looked : LookedTo plan_a 2 2 3 3
three_looked = own_more 2 (omega arith) (own_more 1 (omega arith) (own_more 0 (omega arith) (looked_none (leg_in_lem (can 2 (omega arith)) (omega arith)))))

good_rules : RulesHold (moved plan_a (move_to 2 hold_a 0))
good_rules = subst RulesHold (sym (moved_2 (offsets_a 0 1176 0) hold_a)) ((places_cover_the_rules (plan_with (revised_a 1 0 1176 hold_a))).0 (λ a p l h. all_hold 1 a p l h))

pub rechecks_at_numbers : RechecksAtNumbers
rechecks_at_numbers = record {
  leg_1 =
      let c = can 1 (omega arith) in (
        c,
        all_of plan_a (listed plan_a 1) (λ q i. let x = listed_place plan_a 1 c q.leg q.place i in named_holds q.leg q.place x.0 x.1),
        sym (last_leg_count plan_a 1 (leg_in_lem c (omega arith)) (sym end_1)),
      );
  no_premise = λ was.
      meets_at_2_3 0 (recheck_speaks_for_all.others plan_a 1 2 3 (can 1 (omega arith)) was (record { leg = omega arith; place = omega arith }) not_listed);
  leg_2 =
      let c = can 2 (omega arith) in
      broken_first c (looked_broken (leg_in_lem c (omega arith)) (omega arith) (own_read plan_a 2 3) three_looked (meets_at_2_3 0, place_rule (asked.Overlap 0)));
  premise = record { offset = hold_a; periods = 0; at_most = omega arith; rules = good_rules };
  leg_3 = inr (plan_a_is_well_formed 0 1176 0, (refl, refl, λ h. omega (arith, h)));
  no_words = inl (inl (inl (refl, refl, λ h. omega (arith, h))));
}
