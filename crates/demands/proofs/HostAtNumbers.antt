-- The run of the calls for C at numbers: the bytes are those of the tables and cursors of cases 11 and 12, by computing. Assumes nothing.
use Rattle.std.specs.Prelude.{Ok}
use Prim.Native.Nat.{ℕ, ◌+◌, ◌≤◌}
use mathlib.Core.Path.{◌≡◌, refl, ◌∙◌, sym, ap, subst}
use mathlib.Core.List.{List, ◌++◌}
use mathlib.Core.Logic.{inl, inr, ⊎_elim}
use lib.ListN.{length, get_or}
use native.Mathlib.Omega.{arith}
use Rattle.numbers.specs.Number.{max_word}
use Rattle.numbers.specs.Series.{AllWords, file_of, overlaid}
use Rattle.numbers.proofs.Computed.{file_bytes, file_is, small_words}
use Rattle.numbers.proofs.Overlay.{overlaid_front}
use Rattle.table.specs.Layout.{Sized}
use Rattle.table.specs.Records.{moved, move_to}
use Rattle.table.specs.PlanA.{offsets_a, plan_a, hold_a}
use Rattle.table.proofs.MovedPlans.{moved_2}
use Rattle.files.specs.Reading.{IsFile}
use Rattle.files.specs.Cursors.{ReadsCursor}
use Rattle.files.specs.Theorems.{max_cursor_bytes, plan_a_file}
use Rattle.files.specs.declared.Cursor.{Cursor}
use Rattle.files.proofs.AtNumbers.{plan_a_file_lem}
use Rattle.rules.specs.declared.Rule.{Rule}
use Rattle.rules.specs.declared.Rule.TheVariants as rule
use Rattle.rules.specs.declared.Asked.TheVariants as asked
use Rattle.rules.proofs.Placing.{place_rule}
use Rattle.rules.proofs.CasePlaces.{meets_at_2_3}
use Rattle.places.specs.Order.{rank}
use Rattle.checker.specs.Slices.{Slices}
use Rattle.checker.specs.declared.SliceAnswer.{SliceAnswer}
use Rattle.checker.specs.declared.SliceAnswer.TheVariants.{Violated, NothingViolated, Paused}
use Rattle.host.specs.Answers.{answered, rule_result, slice_answered, bytes_after_slice, with_cursor}
use Rattle.host.specs.Calls.{lent}
use Rattle.demands.specs.Verdicts.{violated}
use Rattle.demands.specs.DemandThreeForC.{HostGives}
use Rattle.demands.specs.HostRuns.{up_to_closing, saved_in, NotRefused, StartMade, SliceMade, MoveMade, HostRun}
use Rattle.demands.specs.AtNumbers.{at}
use Rattle.demands.specs.HostAtNumbers.{moved_file, moved_bytes, zeros, saved, left, violated_in_c, HostRunsAtNumbers}
use Rattle.demands.proofs.PlanTables.{plan_table, ranks, shape, here, granted, stays_at_end, pause, end, violate, on, accepted, before_2_3}

file_a : IsFile Sized plan_a_file plan_a
file_a = record { complete = (shape 0 0 1176 0).sized; words = small_words plan_a (omega arith); bytes = sym plan_a_file_lem }

-- Plan A with leg 2 moved to where leg 0 ends.
move_2 : moved plan_a (move_to 2 hold_a 0) ≡ plan_table 1 0 1176 hold_a
move_2 = moved_2 (offsets_a 0 1176 0) hold_a

moved_bytes_lem : moved_file ≡ file_of (moved plan_a (move_to 2 hold_a 0))
moved_bytes_lem = sym (ap file_of move_2 ∙ file_is (plan_table 1 0 1176 hold_a))

file_moved : IsFile Sized moved_file (moved plan_a (move_to 2 hold_a 0))
file_moved = record {
  complete = subst Sized (sym move_2) (shape 1 0 1176 hold_a).sized;
  words = subst AllWords (sym move_2) (small_words (plan_table 1 0 1176 hold_a) (omega arith));
  bytes = moved_bytes_lem;
}

-- A cursor's bytes as they are read, as they are written to 15 lent bytes, and as they are found there again.
record SavedSo (r l p : ℕ) : Type 0 where
  reads : ReadsCursor (saved r l p) (Ok (at r l p))
  written : left r l p ≡ with_cursor (zeros 15) (at r l p)
  found : saved r l p ≡ saved_in (left r l p)

-- So it is where the bytes of its three numbers are these numbers.
saved_so : (r l p : ℕ) → file_bytes (saved r l p) ≡ saved r l p → r + l + p ≤ max_word → saved r l p ≡ saved_in (left r l p) → SavedSo r l p
saved_so r l p e small found =
    let bytes : file_of (saved r l p) ≡ saved r l p = file_is (saved r l p) ∙ e in
    record {
      reads = record { complete = refl; words = small_words (saved r l p) (omega arith); bytes = sym bytes };
      written = sym (ap (overlaid (zeros 15) 0) bytes ∙ overlaid_front (zeros 15) (saved r l p));
      found = found;
    }

at_start : SavedSo 0 0 0
unfolding up_to_closing
at_start = saved_so 0 0 0 refl (omega arith) refl

at_2_3 : SavedSo 0 2 3
unfolding up_to_closing
at_2_3 = saved_so 0 2 3 refl (omega arith) refl

after_move : SavedSo 1 2 0
unfolding up_to_closing
after_move = saved_so 1 2 0 refl (omega arith) refl

at_end : SavedSo 0 3 0
unfolding up_to_closing
at_end = saved_so 0 3 0 refl (omega arith) refl

at_new_end : SavedSo 1 3 0
unfolding up_to_closing
at_new_end = saved_so 1 3 0 refl (omega arith) refl

room : max_cursor_bytes ≤ length (zeros 15)
room = let n : length (zeros 15) ≡ 15 = refl in omega (arith, n)

-- The calls, one by one.
start_made : StartMade plan_a_file (answered 0 12) (left 0 0 0)
start_made = record {
  out = zeros 15;
  starts = inr (
    plan_a,
    file_a,
    inr (
      room,
      record { given = Ok (at 0 0 0); starts = (shape 0 0 1176 0, refl); answer = ap (answered 0) (sym ranks.3); after = at_start.written },
    ),
  );
  not_refused = omega arith;
}

slice_made : (plan t cursor : List ℕ) (c : Cursor) (budget : ℕ) (r : SliceAnswer) (out : List ℕ) → IsFile Sized plan t → ReadsCursor cursor (Ok c)
    → Slices t c budget r → NotRefused (slice_answered r) → out ≡ bytes_after_slice (zeros 15) r → SliceMade plan cursor budget (slice_answered r) out
slice_made plan t cursor c budget r out f g s n e = record {
  out = zeros 15;
  slices = inr (t, f, inr (c, g, inr (room, record { given = r; slices = s; answer = refl; after = e })));
  not_refused = n;
}

pauses : SliceMade plan_a_file (saved 0 0 0) 10 (answered 1 10) (left 0 2 3)
pauses =
    slice_made plan_a_file plan_a (saved 0 0 0) (at 0 0 0) _ (Paused (at 0 2 3) _) (left 0 2 3) file_a at_start.reads
    (pause 0 0 1176 0 (rank 2 3) (before_2_3 0 0 (omega arith)) _ _ _ _ _ (here _ _ _ _ _ _ (omega arith) (omega arith)) (omega arith) (omega arith)
    (omega (arith, ranks)) (omega (arith, ranks)))
    (omega arith) at_2_3.written

violates : SliceMade plan_a_file (saved 0 2 3) 5 (answered 5 1) (left 0 2 3)
violates =
    slice_made plan_a_file plan_a (saved 0 2 3) (at 0 2 3) 5 (Violated (at 0 2 3) 1 rule.Overlap) (left 0 2 3) file_a at_2_3.reads
    (violate 0 0 1176 0 (rank 2 3) (before_2_3 0 0 (omega arith)) 2 3 2 3 0 5 rule.Overlap (here 0 0 1176 0 2 3 (omega arith) (omega arith)) (omega arith) (omega arith)
    (meets_at_2_3 0) (place_rule (asked.Overlap 0)) (omega arith) (omega (arith, ranks)) (omega arith))
    (omega arith) at_2_3.written

-- What is lent for the new file.
abbrev for_file : List ℕ
for_file = zeros (moved_bytes + 4)

laid : moved_file ++ zeros 4 ≡ overlaid for_file 0 moved_file
laid = sym (overlaid_front for_file moved_file)

moves : MoveMade plan_a_file (saved 0 2 3) (move_to 2 hold_a 0) (answered 0 moved_bytes) (lent (moved_file ++ zeros 4) (left 1 2 0)) moved_file
moves =
    let long : ◌≡◌ {A = ℕ} moved_bytes (length (file_of (moved plan_a (move_to 2 hold_a 0)))) = ap length moved_bytes_lem in
    let given : length for_file ≡ moved_bytes + 4 = refl in
    record {
      m = lent for_file (zeros 15);
      words = record { leg = omega arith; offset = omega arith; periods = omega arith };
      moves = inr (
        plan_a,
        file_a,
        inr (
          at 0 2 3,
          at_2_3.reads,
          inr (
            room,
            record {
              given = Ok (at 1 2 0);
              table = moved plan_a (move_to 2 hold_a 0);
              moves = granted 0 0 1176 0 2 3 (here 0 0 1176 0 2 3 (omega arith) (omega arith)) 2 hold_a (omega arith) (omega arith) 2 0 (inr (refl, refl)) (omega arith) (omega arith);
              after = inr (
                omega (arith, long, given),
                record {
                  answer = ap (answered 0) long;
                  after =
                      ap (λ (f : List ℕ). lent f (left 1 2 0)) (laid ∙ ap (overlaid for_file 0) moved_bytes_lem)
                      ∙ ap (lent (overlaid for_file 0 (file_of (moved plan_a (move_to 2 hold_a 0))))) after_move.written;
                },
              );
            },
          ),
        ),
      );
      not_refused = omega arith;
      new = refl;
    }

accepts : SliceMade moved_file (saved 1 2 0) 5 (answered 0 5) (left 1 3 0)
accepts =
    slice_made moved_file (moved plan_a (move_to 2 hold_a 0)) (saved 1 2 0) (at 1 2 0) _ (NothingViolated (at 1 3 0) _) (left 1 3 0) file_moved after_move.reads
    (on (at 1 2 0) _ (NothingViolated (at 1 3 0) _) move_2
    (end 1 0 1176 hold_a (rank 3 0) (accepted 1) 2 0 _ (here 1 0 1176 hold_a 2 0 (omega arith) (omega arith)) (omega (arith, ranks)) (omega (arith, ranks))))
    (omega arith) at_new_end.written

violates_in_c : HostRun violated_in_c plan_a_file
violates_in_c = ((start_made, inl at_start.found, pauses), inl at_2_3.found, violates)

tells_place : HostGives (answered 5 1) (left 0 2 3) (violated 2 3 rule.Overlap)
tells_place = inr (record {
  rule = rule.Overlap;
  cursor = at 0 2 3;
  result = refl;
  saved = subst (λ (s : List ℕ). ReadsCursor s (Ok (at 0 2 3))) at_2_3.found at_2_3.reads;
  is = refl;
})

-- A slice that paused gives no verdict.
paused_is_none : (r : Rule) → ◌≡◌ {A = ℕ} 1 (rule_result r) → ⊥
paused_is_none rule.Window e = omega (arith, e)
paused_is_none rule.Hop e = omega (arith, e)
paused_is_none rule.Deadline e = omega (arith, e)
paused_is_none rule.Overlap e = omega (arith, e)

pub host_runs_at_numbers : HostRunsAtNumbers
host_runs_at_numbers = record {
  violates = violates_in_c;
  tells_place = tells_place;
  renewed = (tt, tt);
  asked_for = ((at_2_3.found, (at_start.found, tt)), refl);
  has_verdict = inl (violated 2 3 rule.Overlap, tells_place);
  no_verdict = λ v. ⊎_elim (λ g. ⊎_elim (λ z. omega (arith, z.0)) (λ z. paused_is_none z.rule z.result) g.1) (λ z. absurd z) v;
  older = (violates_in_c, inr (inr (inl at_start.found)), pauses);
  started_again = (violates_in_c, start_made);
  accepts = ((plan_a_file, violates_in_c, inl at_2_3.found, moves), inl after_move.found, accepts);
  tells_none = inl (refl, refl);
  altered =
      slice_made plan_a_file plan_a (saved 0 3 0) (at 0 3 0) 0 (NothingViolated (at 0 3 0) 0) (left 0 3 0) file_a at_end.reads (stays_at_end 0 0 1176 0) (omega arith)
      at_end.written;
  not_left = λ r.
      ⊎_elim
      (λ e. let z : ◌≡◌ {A = ℕ} 3 0 = ap (λ (s : List ℕ). get_or s 1 0) (e ∙ sym at_start.found) in absurd (omega arith))
      (λ z. absurd z)
      r.1;
}
