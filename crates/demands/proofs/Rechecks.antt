-- A recheck gives the verdict of a whole check: a place before the first violated one of the list is listed too and holds, or it is not listed and holds by the premise. Assumes nothing.
use Rattle.std.specs.Prelude.{Result, Ok, Err}
use Rattle.basics.specs.declared.Refusal.{Refusal}
use Rattle.recheck.specs.declared.Rechecked.{Rechecked}
use Rattle.recheck.specs.declared.Rechecked.TheVariants.{Violated, NothingViolated}
use Prim.Native.Nat.{ℕ}
use mathlib.Core.Path.{◌≡◌, refl, sym, ap, subst}
use mathlib.Core.List.{List, [], ◌∷◌, ◌++◌}
use mathlib.Core.Logic.{inl, inr, ⊎_elim}
use native.Mathlib.Omega.{arith}
use Rattle.table.specs.PlanA.{plan_a}
use Rattle.table.specs.declared.Move.{Move}
use Rattle.shape.specs.Shape.{WellFormedTable}
use Rattle.files.specs.declared.Cursor.{Cursor}
use Rattle.rules.specs.declared.Rule.TheVariants as rule
use Rattle.places.specs.Order.{Earlier}
use Rattle.places.proofs.Ranks.{end_rank}
use Rattle.checker.specs.Accepted.{Accepted}
use Rattle.checker.specs.Moves.{Moves}
use Rattle.checker.proofs.Whole.{all_held}
use Rattle.recheck.specs.Listed.{place_at, listed}
use Rattle.recheck.specs.Premise.{WasAccepted}
use Rattle.recheck.specs.Rechecks.{CanRecheck, FirstOf, Rechecks}
use Rattle.recheck.specs.Theorems.{In, InOrder}
use Rattle.recheck.specs.declared.Place.{Place}
use Rattle.recheck.proofs.Readers.{recheck_list_is_right}
use Rattle.recheck.proofs.Speaking.{listed_or_not, held_in, recheck_speaks_for_all}
use Rattle.recheck.proofs.Keeping.{premise_is_kept}
use Rattle.recheck.proofs.AtNumbers.{rechecks_at_numbers}
use Rattle.demands.specs.Verdicts.{Verdict, violated, nothing_violated, FirstViolated, RightVerdict}
use Rattle.demands.specs.Rechecks.{RecheckGives, RechecksAreSound, Late, Evening, EveningsAreSound, PremiseIsNeeded}
use Rattle.demands.proofs.Runs.{run_keeps}
use Rattle.demands.proofs.DemandThree.{sound_of}

not_itself : (q r : Place) → r ≡ q → Earlier r.leg r.place q.leg q.place → ⊥
not_itself q r e (inl h) = omega (arith, ap (λ (z : Place). z.leg) e)
not_itself q r e (inr h) = omega (arith, h.1, ap (λ (z : Place). z.place) e)

not_both : (q r : Place) → Earlier q.leg q.place r.leg r.place → Earlier r.leg r.place q.leg q.place → ⊥
not_both q r (inl h) (inl k) = omega arith
not_both q r (inl h) (inr k) = omega (arith, k.0)
not_both q r (inr h) (inl k) = omega (arith, h.0)
not_both q r (inr h) (inr k) = omega (arith, h.1, k.1)

-- In an ordered list, what comes before a place of it stands in front of it.
in_front : (l k : List Place) (q r : Place) → InOrder (l ++ (q ∷ k)) → In r (l ++ (q ∷ k)) → Earlier r.leg r.place q.leg q.place → In r l
in_front [] k q r o (inl e) h = absurd (not_itself q r e h)
in_front [] k q r o (inr i) h = absurd (not_both q r (o.0 r i) h)
in_front (x ∷ l) k q r o (inl e) h = inl e
in_front (x ∷ l) k q r o (inr i) h = inr (in_front l k q r o.1 i h)

in_middle : (l k : List Place) (q : Place) → In q (l ++ (q ∷ k))
in_middle [] k q = inl refl
in_middle (x ∷ l) k q = inr (in_middle l k q)

module _ (t : List ℕ) (m : ℕ) (was : WasAccepted t m) (can : CanRecheck t m) where
  first_violated : (q : Place) (n : ℕ) → FirstOf t (listed t m) q n → FirstViolated t q.leg q.place
  first_violated q n f =
      let right = recheck_list_is_right t m can in
      record {
        place = (right.places q.leg q.place (subst (In q) (sym f.list) (in_middle f.before f.after q))).0;
        broken = f.broken;
        before = λ a p i e.
            ⊎_elim
            (λ (o : In (place_at a p) (listed t m)).
            held_in t f.before (place_at a p) f.held
            (in_front f.before f.after q (place_at a p) (subst InOrder f.list right.in_order) (subst (In (place_at a p)) f.list o) e))
            (λ (o : In (place_at a p) (listed t m) → ⊥). recheck_speaks_for_all.others t m a p can was i o)
            (listed_or_not t m a p i);
      }

right_of : (t : List ℕ) (m : ℕ) (r : Result Rechecked Refusal) (v : Verdict) → WasAccepted t m → Rechecks t m r → RecheckGives r v → RightVerdict t v
right_of t m (Ok (Violated q r n)) v was k e = rw e (first_violated t m was k.0 q n k.1, k.2)
right_of t m (Ok (NothingViolated n)) v was k e = rw e (recheck_speaks_for_all.accepts t m n was k).rules
right_of t m (Err refusal) v was k e = absurd e

-- A recheck that gives a verdict is of a well-formed table.
shape_of : (t : List ℕ) (m : ℕ) (r : Result Rechecked Refusal) (v : Verdict) → Rechecks t m r → RecheckGives r v → WellFormedTable t
shape_of t m (Ok (Violated q r n)) v k e = k.0.shape
shape_of t m (Ok (NothingViolated n)) v k e = k.0.shape
shape_of t m (Err refusal) v k e = absurd e

pub rechecks_are_sound : RechecksAreSound
rechecks_are_sound t m r v was k e = sound_of t (shape_of t m r v k e) v (right_of t m r v was k e)

-- A granted move keeps the premise.
module _ (v u : List ℕ) (c d : Cursor) (mv : Move) (made : Moves v c mv (Ok d) u) where
  after : Accepted v → WasAccepted u mv.leg
  after a = subst (λ (w : List ℕ). WasAccepted w mv.leg) (sym made.table) (premise_is_kept.after_move v mv a made.allowed.can)

  again : WasAccepted v mv.leg → WasAccepted u mv.leg
  again was =
      subst (λ (w : List ℕ). WasAccepted w mv.leg) (sym made.table)
      (premise_is_kept.moved_again v mv made.allowed.cursor.shape was made.allowed.can)

accepted_of : (u : List ℕ) (m : ℕ) (r : Result Rechecked Refusal) → WasAccepted u m → Rechecks u m r → RecheckGives r nothing_violated → Accepted u
accepted_of u m r was k e = record { shape = shape_of u m r nothing_violated k e; rules = right_of u m r nothing_violated was k e }

premise : (t : List ℕ) (late : Late) (earlier : List Late) (u : List ℕ) → Accepted t → Evening t (late ∷ earlier) u → WasAccepted u late.move_made.leg
premise t late [] u a (v, begun, may, (c, d, made), told) = after v u c d late.move_made made (subst Accepted (sym begun) a)
premise t late (before ∷ earlier) u a (v, evening, may, (c, d, made), told) =
    let was = premise t before earlier v a evening in
    ⊎_elim
    (λ (e : RecheckGives before.told nothing_violated). after v u c d late.move_made made (accepted_of v before.move_made.leg before.told was evening.4 e))
    (λ (e : late.move_made.leg ≡ before.move_made.leg). again v u c d late.move_made made (subst (WasAccepted v) (sym e) was))
    may

pub evenings_are_sound : EveningsAreSound
evenings_are_sound = record {
  verdict = λ t late earlier u v a e g. rechecks_are_sound u late.move_made.leg late.told v (premise t late earlier u a e) e.4 g;
  accepted = λ t late earlier u a e g. accepted_of u late.move_made.leg late.told (premise t late earlier u a e) e.4 g;
  begins = λ calls t c run out e end.
      let k = run_keeps calls t run in
      record { shape = k.shape; rules = all_held t (λ a p i from below. (k.cursors c out).held e a p i from (omega (arith, end_rank end))) };
}

pub premise_is_needed : PremiseIsNeeded
premise_is_needed = record {
  rechecked = rechecks_at_numbers.leg_1;
  whole = rechecks_are_sound plan_a 2 (Ok (Violated (place_at 2 3) rule.Overlap 4)) (violated 2 3 rule.Overlap) rechecks_at_numbers.premise rechecks_at_numbers.leg_2 refl;
  no_premise = rechecks_at_numbers.no_premise;
}
