-- Demand 3. A verdict is given from a cursor before which all places hold. And since the last start or granted move each slice that gave none went
-- on by its whole budget. Assumes nothing.
use Rattle.std.specs.Prelude.{Ok, Err}
use Prim.Native.Nat.{ℕ, ◌+◌, ◌≤◌, ◌<◌}
use mathlib.Core.Path.{◌≡◌, refl, ◌∙◌, sym, ap, subst}
use mathlib.Core.List.{List, [], ◌∷◌, ◌++◌}
use mathlib.Core.Logic.{◌⊎◌, inl, inr, ⊎_elim}
use native.Mathlib.Nat.{eq-or-lt_of_le}
use native.Mathlib.Omega.{arith}
use Rattle.basics.proofs.Splits.{lt_or_ge}
use Rattle.table.specs.Layout.{revision_of, leg_count}
use Rattle.shape.specs.Shape.{WellFormedTable}
use Rattle.shape.proofs.OneShape.{well_no_fault}
use Rattle.files.specs.declared.Cursor.{Cursor}
use Rattle.rules.specs.Places.{rule_at}
use Rattle.rules.proofs.Covering.{places_cover_the_rules}
use Rattle.places.specs.Order.{rank, IsPlace, place_count, HoldFrom}
use Rattle.places.proofs.Ranks.{place_rank, rank_is_one, order_is_by_leg}
use Rattle.checker.specs.Cursors.{cursor_rank, CursorRight}
use Rattle.checker.specs.Slices.{start_cursor, Starts, Slices, Went}
use Rattle.checker.specs.Moves.{MoveRight}
use Rattle.checker.proofs.OneAnswer.{right_no_fault, move_no_fault}
use Rattle.checker.specs.declared.SliceAnswer.{SliceAnswer}
use Rattle.checker.specs.declared.SliceAnswer.TheVariants as answer
use Rattle.demands.specs.Verdicts.{Verdict, violated, nothing_violated, Gives, FirstViolated, RightVerdict}
use Rattle.demands.specs.Runs.{Call, start, slice, move_leg, cursor_of, Run, Renews, without_refused, newest, Since, budgets, HasSlice, HasVerdict}
use Rattle.demands.specs.DemandThree.{Sound, OneRightVerdict, RunsAreSound, RunsEndInTime, RunsGoOn, RunsKeepShape, DemandThree}
use Rattle.demands.proofs.Verdicts.{rules_keep_places, right_verdict}
use Rattle.checker.proofs.Whole.{start_right, start_rank}
use Rattle.demands.proofs.DemandTwo.{demand_two}
use Rattle.demands.proofs.Runs.{Kept, run_keeps, right_moved}

-- The first violated place is one.
first_one : {t : List ℕ} (a p b q : ℕ) → FirstViolated t a p → FirstViolated t b q → rank a p ≡ rank b q
first_one a p b q v w =
    ⊎_elim
    (λ (h : rank a p < rank b q). absurd (v.broken (w.before a p v.place ((order_is_by_leg a p b q (inl v.place) (inl w.place)).0 h))))
    (λ (h : rank b q ≤ rank a p).
    ⊎_elim
    (λ (e : rank b q ≡ rank a p). sym e)
    (λ (g : rank b q < rank a p). absurd (w.broken (v.before b q w.place ((order_is_by_leg b q a p (inl w.place) (inl v.place)).0 g))))
    (eq-or-lt_of_le h))
    (lt_or_ge (rank a p) (rank b q))

-- Two right verdicts of one table are one.
pub one_right_verdict : OneRightVerdict
one_right_verdict t (violated a p r) (violated b q s) f g =
    let e = rank_is_one {t = t} a p b q (inl f.0.place) (inl g.0.place) (first_one a p b q f.0 g.0) in
    let e0 = e.0 in
    let e1 = e.1 in
    let e2 = f.1 ∙ ap (λ (z : ℕ). rule_at z) e1 ∙ sym g.1 in
    cc
one_right_verdict t (violated a p r) nothing_violated f h = absurd (rules_keep_places f.0 h)
one_right_verdict t nothing_violated (violated b q s) h g = absurd (rules_keep_places g.0 h)
one_right_verdict t nothing_violated nothing_violated h k = refl

-- The answer of a whole check of a table of which a verdict is right.
module _ (t : List ℕ) (shape : WellFormedTable t) where
  begin : Starts t (Ok (start_cursor t))
  begin = (shape, refl)

  -- From the start on to a cursor all places before it were passed.
  passed : (d : Cursor) → d.revision ≡ revision_of t → HoldFrom t 0 (cursor_rank d) → Went t (start_cursor t) d (cursor_rank d)
  passed d e h = record { revision = e; steps = omega (arith, start_rank begin); held = λ a p i from below. h a p i (omega arith) below }

  whole_answer : (v : Verdict) → RightVerdict t v → (w : SliceAnswer) × Slices t (start_cursor t) (place_count t) w
  whole_answer (violated a p r) f = (
    answer.Violated (record { revision = revision_of t; leg = a; place = p }) (rank a p + 1) r,
    (
      start_right begin,
      record {
        passed = rank a p;
        went = passed (record { revision = revision_of t; leg = a; place = p }) refl
            (λ b q i from below. f.0.before b q i ((order_is_by_leg b q a p (inl i) (inl f.0.place)).0 below));
        steps = refl;
        place = f.0.place;
        broken = f.0.broken;
        rule = f.1;
        within = omega (arith, place_rank f.0.place);
      },
    ),
  )
  whole_answer nothing_violated h = (
    answer.NothingViolated (record { revision = revision_of t; leg = leg_count t; place = 0 }) (rank (leg_count t) 0),
    (
      start_right begin,
      record {
        went = passed (record { revision = revision_of t; leg = leg_count t; place = 0 }) refl (λ b q i from below. (places_cover_the_rules t).1 h b q i.leg i.place);
        end = record { leg = refl; place = refl };
        within = omega arith;
      },
    ),
  )

  pub sound_of : (v : Verdict) → RightVerdict t v → Sound t v
  sound_of v h =
      let w = whole_answer v h in
      record {
        right = h;
        whole = w.0;
        checked = record {
          cursor = start_cursor t;
          budget = place_count t;
          starts = begin;
          enough = omega arith;
          word = demand_two.places t shape;
          slices = w.1;
        };
        each = λ u k.
            let x = demand_two.checks t u k in
            subst (Gives u) (one_right_verdict t x.verdict v x.right h) x.gives;
      }

pub runs_are_sound : RunsAreSound
runs_are_sound [] t c b r v run g = absurd run
runs_are_sound (call ∷ earlier) t c b r v (run, out, s) g =
    let k = run_keeps (call ∷ earlier) t run in
    sound_of t k.shape v (verdict_right t c b r v (k.cursors c out) s g)
  where
    verdict_right : (t : List ℕ) (c : Cursor) (b : ℕ) (r : SliceAnswer) (v : Verdict) → Kept t c → Slices t c b r → Gives r v → RightVerdict t v
    verdict_right t c b (answer.Violated d n r) v k s g = right_verdict t c (k.held s.0.revision) b (answer.Violated d n r) v s g
    verdict_right t c b (answer.NothingViolated d n) v k s g = right_verdict t c (k.held s.0.revision) b (answer.NothingViolated d n) v s g
    verdict_right t c b (answer.Paused d n) v k s g = absurd g
    verdict_right t c b (answer.Refused refusal d) v k s g = absurd g

-- The cursor of a start or of a granted move is right.
pub renewed : (last : Call) (earlier : List Call) (t : List ℕ) → Run (last ∷ earlier) t → Renews last → CursorRight t (cursor_of last)
renewed (start (Ok d)) [] t r n = start_right r
renewed (start (Err d)) [] t r n = absurd r
renewed (slice c b a) [] t r n = absurd r
renewed (move_leg c mv g) [] t r n = absurd r
renewed (start (Ok d)) (call ∷ earlier) t (r, s) n = start_right s
renewed (start (Err d)) (call ∷ earlier) t (r, s) n = absurd (well_no_fault (run_keeps (call ∷ earlier) t r).shape s.0)
renewed (slice c b a) (call ∷ earlier) t r n = absurd n
renewed (move_leg c mv (Ok d)) (call ∷ earlier) t (u, r, out, m) n =
    let e = m.table in
    subst (λ (v : List ℕ). CursorRight v d) (sym e) (right_moved u c d mv (subst (MoveRight u c mv d) e m))
renewed (move_leg c mv (Err d)) (call ∷ earlier) t r n = absurd n

-- How far the newest cursor has come where no verdict was given, by calls that were not refused.
record Progress (t : List ℕ) (made : List Call) (last : Call) : Type 0 where
  right : CursorRight t (newest made last)
  far : budgets made ≤ cursor_rank (newest made last)
  at : HasSlice made → IsPlace t (newest made last).leg (newest made last).place

-- A slice that paused went on by its whole budget.
paused_step : (t : List ℕ) (made : List Call) (last : Call) (c : Cursor) (b : ℕ) (d : Cursor) (n : ℕ) → c ≡ newest made last
    → Slices t c b (answer.Paused d n) → Progress t made last → Progress t (slice c b (answer.Paused d n) ∷ made) last
paused_step t made last c b d n e s g =
    let w = s.1 in
    let x = ap cursor_rank e in
    record {
      right = record { shape = s.0.shape; revision = w.went.revision; stands = inl w.place };
      far = omega (arith, g.far, x, w.went.steps, w.used);
      at = λ h. w.place;
    }

-- One call more, made after the calls y ∷ ys.
step : (call y : Call) (ys : List Call) (t : List ℕ) (part : List Call) (last : Call)
    → Run (call ∷ y ∷ ys) t → Since (without_refused (call ∷ part)) last
    → (Run (y ∷ ys) t → Since (without_refused part) last → HasVerdict part ⊎ Progress t (without_refused part) last)
    → HasVerdict (call ∷ part) ⊎ Progress t (without_refused (call ∷ part)) last
step (start (Ok d)) y ys t part last r s i = absurd s
step (start (Err d)) y ys t part last r s i = i r.0 s
step (slice c b (answer.Violated d n q)) y ys t part last r s i = inl (inl (violated d.leg d.place q, refl))
step (slice c b (answer.NothingViolated d n)) y ys t part last r s i = inl (inl (nothing_violated, refl))
step (slice c b (answer.Paused d n)) y ys t part last r s i =
    ⊎_elim (λ (v : HasVerdict part). inl (inr v)) (λ (g : Progress t (without_refused part) last). inr (paused_step t (without_refused part) last c b d n s.0 r.2 g))
    (i r.0 s.1)
step (slice c b (answer.Refused refusal d)) y ys t part last r s i =
    ⊎_elim (λ (v : HasVerdict part). inl (inr v)) (λ (g : Progress t (without_refused part) last). inr g) (i r.0 s)
step (move_leg c mv (Ok d)) y ys t part last r s i = absurd s
step (move_leg c mv (Err d)) y ys t part last (u, r, out, m) s i = i (subst (Run (y ∷ ys)) (sym m.2) r) s

progress : (part : List Call) (last : Call) (earlier : List Call) (t : List ℕ)
    → Run (part ++ last ∷ earlier) t → Renews last → Since (without_refused part) last → HasVerdict part ⊎ Progress t (without_refused part) last
progress [] last earlier t r n s = inr (record { right = renewed last earlier t r n; far = omega arith; at = λ h. absurd h })
progress (call ∷ []) last earlier t r n s = step call last earlier t [] last r s (λ q z. progress [] last earlier t q n z)
progress (call ∷ x ∷ xs) last earlier t r n s = step call x (xs ++ last ∷ earlier) t (x ∷ xs) last r s (λ q z. progress (x ∷ xs) last earlier t q n z)

pub runs_end_in_time : RunsEndInTime
runs_end_in_time part last earlier t r n s h enough =
    ⊎_elim
    (λ (v : HasVerdict part). v)
    (λ (g : Progress t (without_refused part) last). absurd (omega (arith, g.far, place_rank (g.at h), enough)))
    (progress part last earlier t r n s)

-- The newest cursor of a run is right, whatever was refused after it.
abbrev NewestRight : List ℕ → List Call → Type 0
NewestRight t [] = Unit {0}
NewestRight t (latest ∷ before) = CursorRight t (cursor_of latest)

newest_right : (calls : List Call) (t : List ℕ) → Run calls t → NewestRight t (without_refused calls)
newest_right [] t r = absurd r
newest_right (start (Ok d) ∷ []) t r = start_right r
newest_right (start (Err d) ∷ []) t r = absurd r
newest_right (slice c b a ∷ []) t r = absurd r
newest_right (move_leg c mv g ∷ []) t r = absurd r
newest_right (start (Ok d) ∷ call ∷ earlier) t (r, s) = start_right s
newest_right (start (Err d) ∷ call ∷ earlier) t (r, s) = newest_right (call ∷ earlier) t r
newest_right (slice c b (answer.Violated d n q) ∷ call ∷ earlier) t (r, out, s) =
    record { shape = s.0.shape; revision = s.1.went.revision; stands = inl s.1.place }
newest_right (slice c b (answer.NothingViolated d n) ∷ call ∷ earlier) t (r, out, s) =
    record { shape = s.0.shape; revision = s.1.went.revision; stands = inr s.1.end }
newest_right (slice c b (answer.Paused d n) ∷ call ∷ earlier) t (r, out, s) =
    record { shape = s.0.shape; revision = s.1.went.revision; stands = inl s.1.place }
newest_right (slice c b (answer.Refused refusal d) ∷ call ∷ earlier) t (r, out, s) = newest_right (call ∷ earlier) t r
newest_right (move_leg c mv (Ok d) ∷ call ∷ earlier) t r = renewed (move_leg c mv (Ok d)) (call ∷ earlier) t r tt
newest_right (move_leg c mv (Err d) ∷ call ∷ earlier) t (u, r, out, m) = newest_right (call ∷ earlier) t (subst (Run (call ∷ earlier)) (sym m.2) r)

pub runs_go_on : RunsGoOn
runs_go_on = record {
  slice = λ calls t latest before b f d r e s. right_no_fault (subst (NewestRight t) e (newest_right calls t r)) s.0;
  move_leg = λ calls t latest before mv d u r e can m. move_no_fault (record { cursor = subst (NewestRight t) e (newest_right calls t r); can = can }) m.0;
}

pub runs_keep_shape : RunsKeepShape
runs_keep_shape calls t r = (run_keeps calls t r).shape

pub demand_three : DemandThree
demand_three = record { sound = runs_are_sound; one_verdict = one_right_verdict; in_time = runs_end_in_time; go_on = runs_go_on; shape = runs_keep_shape }
