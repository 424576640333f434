-- Runs at numbers: which places of the tables hold is known, and so what each slice gives. Assumes nothing.
use Rattle.std.specs.Prelude.{Ok}
use Rattle.basics.specs.declared.Cause.TheVariants as cause
use Prim.Native.Nat.{ℕ, ◌+◌, ◌≤◌, ◌<◌}
use mathlib.Core.Path.{◌≡◌, refl, sym, ap, subst}
use mathlib.Core.List.{List, ◌∷◌}
use mathlib.Core.Logic.{inl, inr, ⊎_elim}
use native.Mathlib.Omega.{arith}
use Rattle.table.specs.Records.{moved, move_to}
use Rattle.table.specs.PlanA.{offsets_a, plan_a, hold_a}
use Rattle.table.proofs.MovedPlans.{moved_0, moved_2}
use Rattle.shape.proofs.AtNumbers.{no_records}
use Rattle.files.specs.declared.Cursor.{Cursor}
use Rattle.rules.specs.declared.Rule.TheVariants as rule
use Rattle.rules.specs.Places.{places_of}
use Rattle.rules.specs.declared.Asked.TheVariants as asked
use Rattle.rules.proofs.Placing.{place_rule}
use Rattle.rules.proofs.CasePlaces.{meets_at_2_3, late_at_1_1}
use Rattle.rules.proofs.AtNumbers.{gap_cases, starred_cases}
use Rattle.places.specs.Order.{rank, PlaceOrEnd}
use Rattle.places.proofs.Ranks.{below_none}
use Rattle.checker.specs.Slices.{Starts, Slices}
use Rattle.checker.specs.declared.SliceAnswer.TheVariants.{Violated, NothingViolated, Paused}
use Rattle.checker.specs.declared.SliceAnswer.TheVariants as answer
use Rattle.demands.specs.Verdicts.{nothing_violated}
use Rattle.demands.specs.Runs.{slice, move_leg, Run}
use Rattle.demands.specs.AtNumbers.{good, at, begun, RunsAtNumbers}
use Rattle.demands.specs.CasesAsRuns.{paused_twice, case11, case12, case13, CasesAsRuns}
use Rattle.demands.proofs.PlanTables.{plan_table, ranks, shape, here, right, granted, stays_at_end, pause, end, violate, on, accepted, before_2_3, before_1_1}

-- The first slice of 5, wherever leg 2 is.
begins : (o2 : ℕ) → o2 ≤ 100000 → Run begun (plan_table 0 0 1176 o2)
begins o2 w = (
  (shape 0 0 1176 o2, refl),
  inl refl,
  pause 0 0 1176 o2 (rank 2 3) (before_2_3 0 o2 w) 0 0 1 2 5 (here 0 0 1176 o2 0 0 (omega arith) (omega arith)) (omega arith) (omega arith) (omega (arith, ranks))
      (omega (arith, ranks)),
)

-- Slices of the accepted table that pause and that end, by the places between two cursors.
pauses : (a p b q n : ℕ) → a < 3 → p < places_of a → b < 3 → q < places_of b → rank a p + n ≡ rank b q → rank b q ≤ rank 3 0 → Slices good (at 0 a p) n (Paused (at 0 b q) n)
pauses a p b q n l k m h e le = pause 0 0 1176 hold_a (rank 3 0) (accepted 0) a p b q n (here 0 0 1176 hold_a a p l k) m h e le

ends : (a p n : ℕ) → PlaceOrEnd good a p → rank a p + n ≡ rank 3 0 → Slices good (at 0 a p) n (NothingViolated (at 0 3 0) n)
ends a p n s e = end 0 0 1176 hold_a (rank 3 0) (accepted 0) a p n s e (omega (arith, ranks))

at_1_2 : (o2 : ℕ) → PlaceOrEnd (plan_table 0 0 1176 o2) 1 2
at_1_2 o2 = here 0 0 1176 o2 1 2 (omega arith) (omega arith)

on_good : Run begun good
on_good = begins hold_a (omega arith)

to_the_end : Run (slice (at 0 1 2) 7 (NothingViolated (at 0 3 0) 7) ∷ begun) good
to_the_end = (on_good, inl refl, ends _ _ _ (at_1_2 hold_a) (omega (arith, ranks)))

-- A leg ahead is moved, to 700. A slice from the new cursor goes on, and the old one is refused.
move_ahead : Run (move_leg (at 0 1 2) (move_to 2 700 0) (Ok (at 1 1 2)) ∷ begun) (moved good (move_to 2 700 0))
move_ahead = (
  good,
  on_good,
  inl refl,
  granted 0 0 1176 hold_a 1 2 (at_1_2 hold_a) 2 700 (omega arith) (omega arith) 1 2 (inl (refl, refl)) (omega arith) (omega (arith, ranks)),
)

goes_on_ahead : (p b q : ℕ) → p < places_of 1 → b < 3 → q < places_of b → rank 1 p + 1 ≡ rank b q → rank b q ≤ rank 2 3 → Slices (moved good (move_to 2 700 0)) (at 1 1 p) 1 (Paused (at 1 b q) 1)
goes_on_ahead p b q k l h e le =
    on (at 1 1 p) 1 (Paused (at 1 b q) 1) (moved_2 (offsets_a 0 1176 hold_a) 700) (pause 1 0 1176 700 (rank 2 3) (before_2_3 1 700 (omega arith)) 1 p b q 1 (here 1 0 1176 700 1 p (omega arith) k) l h e le)

stale_cursor_lem : Slices (moved good (move_to 2 700 0)) (at 0 1 2) 5 (answer.Refused (record { cause = cause.StaleCursor; at = 0 }) (at 0 1 2))
stale_cursor_lem =
    on (at 0 1 2) 5 (answer.Refused (record { cause = cause.StaleCursor; at = 0 }) (at 0 1 2)) (moved_2 (offsets_a 0 1176 hold_a) 700)
    (inr (shape 1 0 1176 700, inl (refl, refl, λ e. absurd (omega (arith, e)))), refl)

pub runs_at_numbers : RunsAtNumbers
runs_at_numbers = record {
  twelve = ranks.3;
  eleven = (on_good, inl refl, pauses _ _ _ _ _ (omega arith) (omega arith) (omega arith) (omega arith) (omega (arith, ranks)) (omega (arith, ranks)));
  no_verdict = λ v. ⊎_elim (λ z. absurd z.1) (λ w. ⊎_elim (λ z. absurd z.1) (λ z. absurd z) w) v;
  verdict = to_the_end;
  enough = sym ranks.3;
  renewed = (tt, tt);
  asked_for = ((refl, (refl, tt)), tt);
  has_verdict = inl (nothing_violated, refl);
  nothing_looked_at = (on_good, inl refl, pauses 1 2 1 2 0 (omega arith) (omega arith) (omega arith) (omega arith) (omega arith) (omega (arith, ranks)));
  at_the_end = (to_the_end, inl refl, ends 3 0 0 (inr (record { leg = refl; place = refl })) (omega arith));
  passed = (
    good,
    on_good,
    inl refl,
    granted 0 0 1176 hold_a 1 2 (at_1_2 hold_a) 0 600 (omega arith) (omega arith) 0 0 (inr (refl, refl)) (omega (arith, ranks)) (omega arith),
  );
  ahead = move_ahead;
  stale = (move_ahead, inr (inl refl), stale_cursor_lem);
  refused = (
    good,
    on_good,
    inl refl,
    (inr (right 0 0 1176 hold_a 1 2 (at_1_2 hold_a), inl (refl, refl, λ h. omega (arith, h))), refl, refl),
  );
  goes_on = (refl, tt);
  over_stale_is = (
    (
      (move_ahead, inl refl, goes_on_ahead 2 1 3 (omega arith) (omega arith) (omega arith) (omega arith) (omega (arith, ranks))),
      inr (inr (inl refl)),
      stale_cursor_lem,
    ),
    inr (inl refl),
    goes_on_ahead _ _ _ (omega arith) (omega arith) (omega arith) (omega (arith, ranks)) (omega (arith, ranks)),
  );
  passed_over = (refl, (refl, tt));
  not_counted = refl;
  older = (on_good, inr (inl refl), pauses _ _ _ _ _ (omega arith) (omega arith) (omega arith) (omega arith) (omega (arith, ranks)) (omega (arith, ranks)));
  not_newest = λ s. let e : ◌≡◌ {A = ℕ} 0 1 = ap (λ (c : Cursor). c.leg) s.0 in omega arith;
  altered = (stays_at_end _ _ _ _, λ h. starred_cases.case_5.1 (h.overlap 2 0 (omega arith) (omega arith) (λ e. omega (arith, e))));
  of_another_edition = (stays_at_end _ _ _ _, λ h. gap_cases.end_to_end_is (h.overlap 2 0 (omega arith) (omega arith) (λ e. omega (arith, e))));
  begun_on_bad = begins _ (omega arith);
  not_handed_out = λ r.
      ⊎_elim
      (λ e. let z : ◌≡◌ {A = ℕ} 3 1 = ap (λ (c : Cursor). c.leg) e in absurd (omega arith))
      (λ h. ⊎_elim (λ e. let z : ◌≡◌ {A = ℕ} 3 0 = ap (λ (c : Cursor). c.leg) e in absurd (omega arith)) (λ z. absurd z) h)
      r.1;
  no_legs = (
    (no_records 0, refl),
    inl refl,
    (
      record { shape = no_records 0; revision = refl; stands = inr (record { leg = refl; place = refl }) },
      record {
        went = record { revision = refl; steps = omega arith; held = λ a p i from below. absurd (omega (arith, i.leg)) };
        end = record { leg = refl; place = refl };
        within = omega arith;
      },
    ),
  );
  no_places = below_none;
}

-- Cases 11 to 13. Plan A's place (2,3) is violated, and the places before that hold.
paused_twice_lem : Run paused_twice plan_a
paused_twice_lem = (
  begins 0 (omega arith),
  inl refl,
  pause 0 0 1176 0 (rank 2 3) (before_2_3 0 0 (omega arith)) _ _ _ _ _ (at_1_2 0) (omega arith) (omega arith) (omega (arith, ranks)) (omega (arith, ranks)),
)

run_11 : Run case11 plan_a
run_11 = (
  paused_twice_lem,
  inl refl,
  violate 0 0 1176 0 (rank 2 3) (before_2_3 0 0 (omega arith)) _ _ _ _ 0 _ rule.Overlap (here _ _ _ _ _ _ (omega arith) (omega arith)) (omega arith) (omega arith) (meets_at_2_3 0) (place_rule (asked.Overlap 0)) (omega arith) (omega (arith, ranks)) (omega arith),
)

run_12 : Run case12 (moved plan_a (move_to 2 hold_a 0))
run_12 = (
  (
    plan_a,
    run_11,
    inl refl,
    granted 0 0 1176 0 2 3 (here 0 0 1176 0 2 3 (omega arith) (omega arith)) 2 hold_a (omega arith) (omega arith) 2 0 (inr (refl, refl)) (omega arith) (omega arith),
  ),
  inl refl,
  on (at 1 2 0) _ (NothingViolated (at 1 3 0) _) (moved_2 (offsets_a 0 1176 0) hold_a)
      (end 1 0 1176 hold_a (rank 3 0) (accepted 1) 2 0 _ (here 1 0 1176 hold_a 2 0 (omega arith) (omega arith)) (omega (arith, ranks)) (omega (arith, ranks))),
)

run_13 : Run case13 (moved plan_a (move_to 0 600 0))
run_13 = (
  (
    plan_a,
    paused_twice_lem,
    inl refl,
    granted 0 0 1176 0 _ _ (here _ _ _ _ _ _ (omega arith) (omega arith)) 0 600 (omega arith) (omega arith) 0 0 (inr (refl, refl)) (omega (arith, ranks))
        (omega arith),
  ),
  inl refl,
  on (at 1 0 0) 5 (Violated (at 1 1 1) 5 rule.Hop) (moved_0 (offsets_a 0 1176 0) 600)
      (violate 1 600 1176 0 4 (before_1_1 1) 0 0 1 1 4 5 rule.Hop (here 1 600 1176 0 0 0 (omega arith) (omega arith)) (omega arith) (omega arith) (late_at_1_1 1) (place_rule asked.Hop)
      (omega (arith, ranks)) (omega (arith, ranks)) (omega arith)),
)

pub cases_as_runs : CasesAsRuns
cases_as_runs = record {
  case_11 = run_11;
  case_12 = run_12;
  case_13 = run_13;
  own_leg = (
    good,
    on_good,
    inl refl,
    granted 0 0 1176 hold_a 1 2 (at_1_2 hold_a) 1 1200 (omega arith) (omega arith) 1 0 (inr (refl, refl)) (omega arith) (omega arith),
  );
  started_again = (
    (run_12, subst (λ (t : List ℕ). Starts t (Ok (at 1 0 0))) (sym (moved_2 (offsets_a 0 1176 0) hold_a)) (shape 1 0 1176 hold_a, refl)),
    inl refl,
    on (at 1 0 0) _ (NothingViolated (at 1 3 0) _) (moved_2 (offsets_a 0 1176 0) hold_a)
        (end 1 0 1176 hold_a (rank 3 0) (accepted 1) 0 0 _ (here 1 0 1176 hold_a 0 0 (omega arith) (omega arith)) (omega (arith, ranks)) (omega (arith, ranks))),
  );
}
