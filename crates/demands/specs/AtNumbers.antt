-- Runs at numbers: Plan A with leg 2 at 672, which has twelve places and is accepted, and at 671, which is not; and a table with no legs.
use Rattle.std.specs.Prelude.{ℕ, ◌≡◌, List, [], ◌∷◌, ◌++◌, Ok, Err}
use Rattle.basics.specs.declared.Cause.TheVariants as cause
use Rattle.table.specs.Records.{moved, move_to}
use Rattle.table.specs.PlanA.{plan_with, offsets_a}
use Rattle.files.specs.declared.Cursor.{Cursor}
use Rattle.rules.specs.Rules.{RulesHold}
use Rattle.places.specs.Order.{place_count}
use Rattle.checker.specs.Slices.{Slices}
use Rattle.checker.specs.declared.SliceAnswer.TheVariants.{NothingViolated, Paused}
use Rattle.checker.specs.declared.SliceAnswer.TheVariants as answer
use Rattle.demands.specs.Runs.{Call, start, slice, move_leg, Run, Renews, without_refused, Since, budgets, HasSlice, HasVerdict}

abbrev pub good : List ℕ
good = plan_with (offsets_a 0 1176 672)

-- One nanosecond earlier legs 0 and 2 meet.
abbrev pub bad : List ℕ
bad = plan_with (offsets_a 0 1176 671)

-- Leg 2 is sent just when leg 0 is through, without the gap.
abbrev pub end_to_end : List ℕ
end_to_end = plan_with (offsets_a 0 1176 576)

abbrev pub none : List ℕ
none = 0 ∷ 0 ∷ 0 ∷ 0 ∷ 0 ∷ []

abbrev pub at : ℕ → ℕ → ℕ → Cursor
at revision leg place = record { revision = revision; leg = leg; place = place }

-- A start, and a slice of 5 that pauses.
abbrev pub begun : List Call
begun = slice (at 0 0 0) 5 (Paused (at 0 1 2) 5) ∷ start (Ok (at 0 0 0)) ∷ []

-- Two slices after a start, with budgets of 5 and 7.
abbrev pub five_and_seven : List Call
five_and_seven = slice (at 0 1 2) 7 (NothingViolated (at 0 3 0) 7) ∷ slice (at 0 0 0) 5 (Paused (at 0 1 2) 5) ∷ []

-- Two slices after a move, and between them one that was refused, being given a cursor of the old revision.
abbrev pub over_stale : List Call
over_stale =
    slice (at 1 1 3) 1 (Paused (at 1 2 0) 1)
    ∷ slice (at 0 1 2) 5 (answer.Refused (record { cause = cause.StaleCursor; at = 0 }) (at 0 1 2))
    ∷ slice (at 1 1 2) 1 (Paused (at 1 1 3) 1)
    ∷ []

pub record RunsAtNumbers : Type 0 where
  pub twelve : place_count good ≡ 12
  -- With budgets of 5 and 6 no verdict need come: one place is left. With 5 and 7 it comes, though the budget is just used up.
  pub eleven : Run (slice (at 0 1 2) 6 (Paused (at 0 2 4) 6) ∷ begun) good
  pub no_verdict : HasVerdict (slice (at 0 1 2) 6 (Paused (at 0 2 4) 6) ∷ slice (at 0 0 0) 5 (Paused (at 0 1 2) 5) ∷ []) → ⊥
  pub verdict : Run (slice (at 0 1 2) 7 (NothingViolated (at 0 3 0) 7) ∷ begun) good
  pub enough : budgets five_and_seven ≡ place_count good
  -- These two have all that demand 3 asks for, and their verdict: a start or a granted move before them, a slice, and the newest cursor each time.
  pub renewed : Renews (start (Ok (at 0 0 0))) × Renews (move_leg (at 0 1 2) (move_to 2 700 0) (Ok (at 1 1 2)))
  pub asked_for : Since (without_refused five_and_seven) (start (Ok (at 0 0 0))) × HasSlice (without_refused five_and_seven)
  pub has_verdict : HasVerdict five_and_seven
  -- A budget of 0 looks at nothing, and at the end it is a verdict.
  pub nothing_looked_at : Run (slice (at 0 1 2) 0 (Paused (at 0 1 2) 0) ∷ begun) good
  pub at_the_end : Run (slice (at 0 3 0) 0 (NothingViolated (at 0 3 0) 0) ∷ slice (at 0 1 2) 7 (NothingViolated (at 0 3 0) 7) ∷ begun) good
  -- A move of a leg that the cursor has passed pulls it back, one of a leg ahead does not, and the old cursor is refused 8 from then on.
  pub passed : Run (move_leg (at 0 1 2) (move_to 0 600 0) (Ok (at 1 0 0)) ∷ begun) (moved good (move_to 0 600 0))
  pub ahead : Run (move_leg (at 0 1 2) (move_to 2 700 0) (Ok (at 1 1 2)) ∷ begun) (moved good (move_to 2 700 0))
  pub stale : Run (slice (at 0 1 2) 5 (answer.Refused (record { cause = cause.StaleCursor; at = 0 }) (at 0 1 2)) ∷ move_leg (at 0 1 2) (move_to 2 700 0) (Ok (at 1 1 2)) ∷ begun) (moved good (move_to 2 700 0))
  -- A refused move leaves the table and the cursor, and is no new beginning.
  pub refused : Run (move_leg (at 0 1 2) (move_to 3 700 0) (Err (record { refusal = record { cause = cause.NoLeg; at = 0 }; cursor = at 0 1 2 })) ∷ begun) good
  pub goes_on : Since (without_refused (move_leg (at 0 1 2) (move_to 3 700 0) (Err (record { refusal = record { cause = cause.NoLeg; at = 0 }; cursor = at 0 1 2 })) ∷ slice (at 0 0 0) 5 (Paused (at 0 1 2) 5) ∷ [])) (start (Ok (at 0 0 0)))
  -- A refused slice is passed over: the newest cursor is the one before it, and its budget does not count.
  pub over_stale_is : Run (over_stale ++ move_leg (at 0 1 2) (move_to 2 700 0) (Ok (at 1 1 2)) ∷ begun) (moved good (move_to 2 700 0))
  pub passed_over : Since (without_refused over_stale) (move_leg (at 0 1 2) (move_to 2 700 0) (Ok (at 1 1 2)))
  pub not_counted : budgets (without_refused over_stale) ≡ 2
  -- Where a slice is given an older cursor than the newest, budgets of 5 and 7 give no verdict, and such a part does not count.
  pub older : Run (slice (at 0 0 0) 7 (Paused (at 0 2 0) 7) ∷ begun) good
  pub not_newest : Since (without_refused (slice (at 0 0 0) 7 (Paused (at 0 2 0) 7) ∷ slice (at 0 0 0) 5 (Paused (at 0 1 2) 5) ∷ [])) (start (Ok (at 0 0 0))) → ⊥
  -- A cursor that no call handed out, here at the end of a table that breaks a rule, would be believed: demand 3 asks that cursors are not altered. No run has
  -- such a slice.
  pub altered : Slices bad (at 0 3 0) 0 (NothingViolated (at 0 3 0) 0) × (RulesHold bad → ⊥)
  pub begun_on_bad : Run begun bad
  pub not_handed_out : Run (slice (at 0 3 0) 0 (NothingViolated (at 0 3 0) 0) ∷ begun) bad → ⊥
  -- A cursor that was saved under rules without the gap, here at the end of two slots end to end, would be believed too: no cursor outlives its edition of the rules.
  pub of_another_edition : Slices end_to_end (at 0 3 0) 0 (NothingViolated (at 0 3 0) 0) × (RulesHold end_to_end → ⊥)
  -- No legs: no places, and a budget of 0 is enough once a slice has run.
  pub no_legs : Run (slice (at 0 0 0) 0 (NothingViolated (at 0 0 0) 0) ∷ start (Ok (at 0 0 0)) ∷ []) none
  pub no_places : place_count none ≡ budgets (slice (at 0 0 0) 0 (NothingViolated (at 0 0 0) 0) ∷ [])
