-- Admissions in demand 2's words: a table passes a whole check exactly when it is accepted. Assumes nothing.
use Rattle.std.specs.Prelude.{Ok, Some}
use Rattle.basics.specs.Cause.{number_of, refused}
use Rattle.basics.specs.declared.Cause.TheVariants as cause
use Prim.Native.Nat.{ℕ}
use mathlib.Core.Path.{◌≡◌, ◌∙◌, sym, ap, subst}
use mathlib.Core.List.{List}
use mathlib.Core.Logic.{inl, inr}
use lib.ListN.{length, take}
use native.Mathlib.Omega.{arith}
use Rattle.numbers.proofs.Overlay.{overlaid_taken}
use Rattle.shape.proofs.Refused.{shape_of_table}
use Rattle.enlarge.specs.Enlarged.{enlarged, legs_from}
use Rattle.enlarge.specs.declared.Wanted.{Wanted}
use Rattle.enlarge.proofs.Grown.{grown_long}
use Rattle.enlarge.proofs.NewLegs.{from_length}
use Rattle.checker.specs.Accepted.{Accepted}
use Rattle.checker.specs.declared.SliceAnswer.{SliceAnswer}
use Rattle.admission.specs.Admits.{SomeFits, WholeTold, Admits}
use Rattle.demands.specs.Verdicts.{nothing_violated, Gives}
use Rattle.demands.specs.DemandTwo.{WholeCheck}
use Rattle.demands.specs.Admissions.{Passes, AdmissionsPass}
use Rattle.demands.proofs.DemandTwo.{demand_two}

passes_accepted : {u : List ℕ} → Passes u → Accepted u
passes_accepted {u} p = record { shape = p.check.starts.0; rules = (demand_two.checks u p.answer p.check).rules_hold p.gives }

accepted_passes : (u : List ℕ) → Accepted u → (r : SliceAnswer) → WholeCheck u r → Gives r nothing_violated
accepted_passes u a r c = (demand_two.checks u r c).accepts a.rules

module _ (t : List ℕ) (w : Wanted) (route out out' : List ℕ) where
  laid : (x n : ℕ) → Admits t w route out (Ok (Some (record { offset = x; words = n }))) out' → take n out' ≡ enlarged t w route x
  laid x n a =
      let long : n ≡ length (enlarged t w route x) = a.answer.count ∙ sym (grown_long t w (length route) (legs_from t w x route) a.answer.may.shape.sized (from_length t w x route)) in
      ap (λ (m : ℕ). take m out') long ∙ ap (take (length (enlarged t w route x))) a.after ∙ overlaid_taken out (enlarged t w route x)

  -- 18 is told for one cause alone.
  none_fits : (p : ℕ) → WholeTold t w route (length out) (refused cause.NoOffset p) → SomeFits t w route 0 → ⊥
  none_fits p (inl (inl f)) some = omega (arith, (shape_of_table t cause.NoOffset p f).small)
  none_fits p (inl (inr (s, inl f))) some = omega (arith, ap number_of f.0)
  none_fits p (inl (inr (s, inr (r, inl f)))) some = omega (arith, ap number_of f.0)
  none_fits p (inl (inr (s, inr (r, inr (c, inl f))))) some = omega (arith, ap number_of f.0)
  none_fits p (inl (inr (s, inr (r, inr (c, inr (h, f)))))) some = omega (arith, ap number_of f.0)
  none_fits p (inr (m, f)) some = f.2 some

pub admissions_pass : AdmissionsPass
admissions_pass = record {
  admitted = λ t w route out out' x n a. (
    laid t w route out out' x n a,
    accepted_passes (take n out') (subst Accepted (sym (laid t w route out out' x n a)) a.answer.found.has),
  );
  sooner = λ t w route out out' x n y a h p. a.answer.found.least y (omega arith) h (passes_accepted p);
  nowhere = λ t w route out out' p y a h s.
      none_fits t w route out out' p a.answer (record { offset = y; above = omega arith; below = h; fits = passes_accepted s });
}
