-- What a slice finds from a cursor before which all places hold is what the rules say. Assumes nothing.
use Prim.Native.Nat.{ℕ, ◌≤◌, ◌<◌}
use mathlib.Core.List.{List}
use mathlib.Core.Logic.{inl, ⊎_elim}
use native.Mathlib.Omega.{arith}
use Rattle.basics.proofs.Splits.{lt_or_ge}
use Rattle.rules.specs.Rules.{RulesHold}
use Rattle.rules.specs.declared.Rule.{Rule}
use Rattle.places.specs.Order.{rank, HoldFrom}
use Rattle.places.proofs.Ranks.{end_rank, order_is_by_leg}
use Rattle.files.specs.declared.Cursor.{Cursor}
use Rattle.checker.specs.Cursors.{cursor_rank}
use Rattle.checker.specs.Slices.{Went, Violates, Ends, Slices}
use Rattle.checker.proofs.Whole.{all_held, broken_rules}
use Rattle.checker.specs.declared.SliceAnswer.{SliceAnswer}
use Rattle.checker.specs.declared.SliceAnswer.TheVariants as answer
use Rattle.demands.specs.Verdicts.{Verdict, FirstViolated, Gives, RightVerdict}

-- One stretch of places and the next.
pub held_through : {t : List ℕ} (n m k : ℕ) → HoldFrom t n m → HoldFrom t m k → HoldFrom t n k
held_through n m k h l a p i from below =
    ⊎_elim (λ (g : rank a p < m). h a p i from g) (λ (g : m ≤ rank a p). l a p i g below) (lt_or_ge (rank a p) m)

pub rules_keep_places : {t : List ℕ} {a p : ℕ} → FirstViolated t a p → RulesHold t → ⊥
rules_keep_places {t} {a} {p} v = broken_rules t a p v.place v.broken

module _ (t : List ℕ) (c : Cursor) (held : HoldFrom t 0 (cursor_rank c)) where
  pub all_before : {d : Cursor} {n : ℕ} → Went t c d n → HoldFrom t 0 (cursor_rank d)
  all_before {d} w = held_through {t = t} 0 (cursor_rank c) (cursor_rank d) held w.held

  first_violated : {b n : ℕ} {d : Cursor} {r : Rule} → Violates t c b d n r → FirstViolated t d.leg d.place
  first_violated {d = d} v = record {
    place = v.place;
    broken = v.broken;
    before = λ a p i e. all_before {d = d} v.went a p i (omega arith) ((order_is_by_leg a p d.leg d.place (inl i) (inl v.place)).1 e);
  }

  ended : {b n : ℕ} {d : Cursor} → Ends t c b d n → RulesHold t
  ended {d = d} e = all_held t (λ a p i from below. all_before {d = d} e.went a p i from (omega (arith, end_rank e.end)))

  pub right_verdict : (b : ℕ) (r : SliceAnswer) (v : Verdict) → Slices t c b r → Gives r v → RightVerdict t v
  right_verdict b (answer.Violated d n r) v s e = rw e (first_violated s.1, s.1.rule)
  right_verdict b (answer.NothingViolated d n) v s e = rw e (ended s.1)
  right_verdict b (answer.Paused d n) v s e = absurd e
  right_verdict b (answer.Refused refusal d) v s e = absurd e
