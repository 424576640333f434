-- Demand 2: a whole check begins before every place, and its budget does not end before they do. Assumes nothing.
use Rattle.std.specs.Prelude.{Ok}
use Prim.Native.Nat.{ℕ, ◌≤◌}
use mathlib.Core.Path.{◌≡◌, refl, ◌∙◌, sym, ap}
use mathlib.Core.List.{List}
use native.Mathlib.Omega.{arith}
use Rattle.files.specs.declared.Cursor.{Cursor}
use Rattle.files.proofs.ComeBack.{files_come_back, tables_come_back}
use Rattle.rules.specs.declared.Rule.{Rule}
use Rattle.places.specs.Order.{place_count, HoldFrom}
use Rattle.checker.specs.Cursors.{cursor_rank}
use Rattle.checker.specs.Slices.{start_cursor, Starts, Slices}
use Rattle.checker.proofs.OneAnswer.{start_one_answer}
use Rattle.checker.proofs.Whole.{start_rank, few_places, not_paused, not_refused}
use Rattle.checker.specs.declared.SliceAnswer.{SliceAnswer}
use Rattle.checker.specs.declared.SliceAnswer.TheVariants as answer
use Rattle.demands.specs.Verdicts.{Verdict, violated, nothing_violated, Gives, RightVerdict}
use Rattle.rules.proofs.Covering.{own_repeats_never_meet}
use Rattle.demands.specs.DemandTwo.{WholeCheckIsRight, DemandTwo}
use Rattle.demands.proofs.Verdicts.{rules_keep_places, right_verdict}

-- All places before a start's cursor hold: there are none.
pub start_held : {t : List ℕ} {c : Cursor} → Starts t (Ok c) → HoldFrom t 0 (cursor_rank c)
start_held s a p i from below = absurd (omega (arith, start_rank s))

-- An answer gives one verdict, and so not both.
pub gives_same : (r : SliceAnswer) (v w : Verdict) → Gives r v → Gives r w → v ≡ w
gives_same (answer.Violated d n r) v w g h = g ∙ sym h
gives_same (answer.NothingViolated d n) v w g h = g ∙ sym h
gives_same (answer.Paused d n) v w g h = absurd g
gives_same (answer.Refused refusal d) v w g h = absurd g

Violated? : Verdict → ℕ
Violated? (violated a p r) = 1
Violated? nothing_violated = 0

gives_one : (a p : ℕ) (s : Rule) (r : SliceAnswer) → Gives r (violated a p s) → Gives r nothing_violated → ⊥
unfolding Violated?
gives_one a p s r g h = let e : ◌≡◌ {A = ℕ} 1 0 = ap Violated? (gives_same r (violated a p s) nothing_violated g h) in omega arith

-- A whole check gives a verdict.
whole_verdict : {t : List ℕ} (c : Cursor) (budget : ℕ) (r : SliceAnswer) → Starts t (Ok c) → place_count t ≤ budget → Slices t c budget r → (v : Verdict) × Gives r v
whole_verdict c budget (answer.Violated d n r) s e q = (violated d.leg d.place r, refl)
whole_verdict c budget (answer.NothingViolated d n) s e q = (nothing_violated, refl)
whole_verdict {t} c budget (answer.Paused d n) s e q = absurd (not_paused t c s d n budget e q)
whole_verdict {t} c budget (answer.Refused refusal d) s e q = absurd (not_refused t c s refusal d budget q)

is_right : (t : List ℕ) (r : SliceAnswer) (v : Verdict) → Gives r v → RightVerdict t v → WholeCheckIsRight t r
is_right t r (violated a p s) g h = record {
  verdict = violated a p s;
  gives = g;
  right = h;
  accepts = λ k. absurd (rules_keep_places h.0 k);
  rules_hold = λ k. absurd (gives_one a p s r g k);
  names = λ n. (a, p, s, g, h.0);
}
is_right t r nothing_violated g h = record {
  verdict = nothing_violated;
  gives = g;
  right = h;
  accepts = λ k. g;
  rules_hold = λ k. h;
  names = λ n. absurd (n h);
}

pub demand_two : DemandTwo
demand_two = record {
  starts = λ t g w s. start_one_answer t g (Ok (start_cursor t)) s (w, refl);
  places = few_places;
  checks = λ t r w.
      let v = whole_verdict w.cursor w.budget r w.starts w.enough w.slices in
      is_right t r v.0 v.1 (right_verdict t w.cursor (start_held w.starts) w.budget r v.0 w.slices v.1);
  own_repeats = own_repeats_never_meet;
  files = files_come_back;
  tables = tables_come_back;
}
