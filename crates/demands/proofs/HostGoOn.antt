-- In a run of the calls for C the newest cursor is right and the table well-formed, so no start is refused, nor a slice that goes on from there, nor a move of one of
-- its legs, where there is room; and every result but paused tells a verdict. With that, demand 3 for C. Assumes nothing.
use Rattle.std.specs.Prelude.{Result, Ok, Err}
use Rattle.basics.specs.Cause.{number_of}
use Rattle.basics.specs.declared.Cause.TheVariants as cause
use Rattle.files.specs.declared.Returned.{Returned}
use Prim.Native.Nat.{ℕ, ◌≤◌, ◌<◌}
use mathlib.Core.Path.{◌≡◌, refl, ap, subst}
use mathlib.Core.List.{List, [], ◌∷◌}
use mathlib.Core.Logic.{inl, inr}
use lib.ListN.{length}
use native.Mathlib.Omega.{arith}
use Rattle.table.specs.Layout.{Sized}
use Rattle.table.specs.declared.Move.{Move}
use Rattle.files.specs.Reading.{IsFile}
use Rattle.files.specs.Cursors.{ReadsCursor}
use Rattle.files.specs.Theorems.{max_cursor_bytes}
use Rattle.files.specs.declared.Cursor.{Cursor}
use Rattle.files.proofs.OneAnswer.{same_file, file_no_fault}
use Rattle.shape.specs.Shape.{WellFormedTable}
use Rattle.shape.proofs.OneShape.{well_no_fault}
use Rattle.rules.specs.declared.Rule.{Rule}
use Rattle.rules.specs.declared.Rule.TheVariants as rule
use Rattle.places.specs.Order.{place_count}
use Rattle.checker.specs.Cursors.{CursorRight}
use Rattle.checker.specs.Slices.{Starts, Slices}
use Rattle.checker.specs.Moves.{CanMove, MoveAllowed, Moves}
use Rattle.checker.specs.declared.SliceAnswer.{SliceAnswer}
use Rattle.checker.specs.declared.SliceAnswer.TheVariants as answer
use Rattle.checker.proofs.OneAnswer.{right_no_fault, move_no_fault}
use Rattle.host.specs.Answers.{refused_result, rule_result, slice_answered, start_answered, result_alone}
use Rattle.host.specs.Calls.{Lent, AfterMove, HostStarts, HostSlices, HostMoves}
use Rattle.host.specs.declared.Answer.{Answer}
use Rattle.host.proofs.OneAnswer.{saved_one, saved_not_unread}
use Rattle.host.proofs.MoveRoom.{move_room_is_enough}
use Rattle.demands.specs.Verdicts.{Verdict, violated, nothing_violated}
use Rattle.demands.specs.Runs.{Call, cursor_of_answer, cursor_of, Run}
use Rattle.demands.specs.Runs as runs
use Rattle.demands.specs.HostRuns.{saved_in, HostCall, start, slice, move_leg, bytes_left, NotRefused}
use Rattle.demands.specs.DemandThreeForC.{HostGives, HostRunsGoOn, DemandThreeForC}
use Rattle.demands.proofs.DemandThree.{renewed}
use Rattle.demands.proofs.Runs.{run_keeps}
use Rattle.demands.proofs.HostCalls.{slice_carried}
use Rattle.demands.proofs.HostRuns.{Mirrors, Carried, carried, left_is, told_to_c, host_runs_are_sound, host_runs_end_in_time}

-- The newest cursor of a run is right.
sliced_right : (t : List ℕ) (c : Cursor) (b : ℕ) (x : SliceAnswer) (a : Answer) → NotRefused a → a ≡ slice_answered x → Slices t c b x → CursorRight t (cursor_of_answer x)
sliced_right t c b (answer.Violated d n r) a h e s = record { shape = s.0.shape; revision = s.1.went.revision; stands = inl s.1.place }
sliced_right t c b (answer.NothingViolated d n) a h e s = record { shape = s.0.shape; revision = s.1.went.revision; stands = inr s.1.end }
sliced_right t c b (answer.Paused d n) a h e s = record { shape = s.0.shape; revision = s.1.went.revision; stands = inl s.1.place }
sliced_right t c b (answer.Refused refusal d) a h e s = absurd (omega (arith, ap result_alone e, h))

newest_right : (h : HostCall) (c : Call) (cs : List Call) (t : List ℕ) → Mirrors h c → Run (c ∷ cs) t → CursorRight t (cursor_of c)
newest_right (start a out) (runs.start (Ok d)) cs t m r = renewed (runs.start (Ok d)) cs t r tt
newest_right (start a out) (runs.start (Err d)) cs t m r = absurd m
newest_right (start a out) (runs.slice c b x) cs t m r = absurd m
newest_right (start a out) (runs.move_leg c mv g) cs t m r = absurd m
newest_right (slice s n a out) (runs.start g) cs t m r = absurd m
newest_right (slice s n a out) (runs.slice c b x) [] t m r = absurd r
newest_right (slice s n a out) (runs.slice c b x) (k ∷ ks) t m r = sliced_right t c b x a m.not_refused m.answer r.2
newest_right (slice s n a out) (runs.move_leg c mv g) cs t m r = absurd m
newest_right (move_leg s mv a q) (runs.start g) cs t m r = absurd m
newest_right (move_leg s mv a q) (runs.slice c b x) cs t m r = absurd m
newest_right (move_leg s mv a q) (runs.move_leg c nv (Ok d)) cs t m r = renewed (runs.move_leg c nv (Ok d)) cs t r tt
newest_right (move_leg s mv a q) (runs.move_leg c nv (Err d)) cs t m r = absurd m

-- A slice from a right cursor and a start of a well-formed table are not refused.
pub rule_below : (r : Rule) → rule_result r < refused_result 0
rule_below rule.Window = omega arith
rule_below rule.Hop = omega arith
rule_below rule.Deadline = omega arith
rule_below rule.Overlap = omega arith

slice_answers : (t : List ℕ) (c : Cursor) (b : ℕ) (x : SliceAnswer) (a : Answer) → CursorRight t c → Slices t c b x → a ≡ slice_answered x → NotRefused a
slice_answers t c b (answer.Violated d n r) a k s e = omega (arith, ap result_alone e, rule_below r)
slice_answers t c b (answer.NothingViolated d n) a k s e = omega (arith, ap result_alone e)
slice_answers t c b (answer.Paused d n) a k s e = omega (arith, ap result_alone e)
slice_answers t c b (answer.Refused refusal d) a k s e = absurd (right_no_fault k s.0)

start_answers : (t : List ℕ) (n : ℕ) (g : Result Cursor Returned) (a : Answer) → WellFormedTable t → Starts t g → a ≡ start_answered n g → NotRefused a
start_answers t n (Ok d) a w s e = omega (arith, ap result_alone e)
start_answers t n (Err d) a w s e = absurd (well_no_fault w s.0)

starts_go_on : (calls : List HostCall) (plan out : List ℕ) (a : Answer) (out' : List ℕ) → Carried calls plan → max_cursor_bytes ≤ length out → HostStarts plan out a out' → NotRefused a
starts_go_on calls plan out a out' i h (inl x) = absurd (file_no_fault i.file x.fault)
starts_go_on calls plan out a out' i h (inr (t, f, inl x)) = absurd (x.fault.2 h)
starts_go_on calls plan out a out' i h (inr (t, f, inr x)) =
    let w = subst WellFormedTable (same_file i.file f) (run_keeps (i.latest ∷ i.earlier) i.table i.run).shape in
    start_answers t (place_count t) x.1.given a w x.1.starts x.1.answer

-- What was read of the newest bytes is right.
given_right : (latest : HostCall) (earlier : List HostCall) (plan t : List ℕ) (c : Cursor) → Carried (latest ∷ earlier) plan → IsFile Sized plan t
    → ReadsCursor (saved_in (bytes_left latest)) (Ok c) → CursorRight t c
given_right latest earlier plan t c i f g =
    let r = newest_right latest i.latest i.earlier i.table i.mirrored.0 i.run in
    let e = saved_one (saved_in (bytes_left latest)) (cursor_of i.latest) c (left_is latest i.latest i.mirrored.0) g in
    subst (λ (d : Cursor). CursorRight t d) e (subst (λ (u : List ℕ). CursorRight u (cursor_of i.latest)) (same_file i.file f) r)

slices_go_on : (latest : HostCall) (earlier : List HostCall) (plan : List ℕ) (budget : ℕ) (out : List ℕ) (a : Answer) (out' : List ℕ)
    → Carried (latest ∷ earlier) plan → max_cursor_bytes ≤ length out → HostSlices plan (saved_in (bytes_left latest)) budget out a out' → NotRefused a
slices_go_on latest earlier plan b out a out' i h (inl x) = absurd (file_no_fault i.file x.fault)
slices_go_on latest earlier plan b out a out' i h (inr (t, f, inl x)) =
    absurd (saved_not_unread (saved_in (bytes_left latest)) (cursor_of i.latest) x.cause x.at (left_is latest i.latest i.mirrored.0) x.fault)
slices_go_on latest earlier plan b out a out' i h (inr (t, f, inr (c, g, inl x))) = absurd (x.fault.2 h)
slices_go_on latest earlier plan b out a out' i h (inr (t, f, inr (c, g, inr x))) =
    slice_answers t c b x.1.given a (given_right latest earlier plan t c i f g) x.1.slices x.1.answer

-- A granted move has room for its file, and from a right cursor no other fault is left.
move_answers : (t : List ℕ) (c : Cursor) (mv : Move) (m : Lent) (g : Result Cursor Returned) (u : List ℕ) (a : Answer) (m' : Lent)
    → MoveAllowed t c mv → (a.result ≡ refused_result (number_of cause.NoRoom) → ⊥) → Moves t c mv g u → AfterMove g u m a m' → NotRefused a
move_answers t c mv m (Ok d) u a m' r room x (inl y) = absurd (room (omega (arith, ap result_alone y.answer, ap number_of y.fault.0)))
move_answers t c mv m (Ok d) u a m' r room x (inr y) = omega (arith, ap result_alone y.1.answer)
move_answers t c mv m (Err d) u a m' r room x y = absurd (move_no_fault r x.0)

moves_go_on : (latest : HostCall) (earlier : List HostCall) (plan t : List ℕ) (mv : Move) (m : Lent) (a : Answer) (m' : Lent)
    → Carried (latest ∷ earlier) plan → IsFile Sized plan t → CanMove t mv → max_cursor_bytes ≤ length m.out
    → (a.result ≡ refused_result (number_of cause.NoRoom) → ⊥) → HostMoves plan (saved_in (bytes_left latest)) mv m a m' → NotRefused a
moves_go_on latest earlier plan t mv m a m' i is can h room (inl x) = absurd (file_no_fault i.file x.fault)
moves_go_on latest earlier plan t mv m a m' i is can h room (inr (u, f, inl x)) =
    absurd (saved_not_unread (saved_in (bytes_left latest)) (cursor_of i.latest) x.cause x.at (left_is latest i.latest i.mirrored.0) x.fault)
moves_go_on latest earlier plan t mv m a m' i is can h room (inr (u, f, inr (c, g, inl x))) = absurd (x.fault.2 h)
moves_go_on latest earlier plan t mv m a m' i is can h room (inr (u, f, inr (c, g, inr x))) =
    let k = given_right latest earlier plan u c i f g in
    let may : MoveAllowed u c mv = record { cursor = k; can = subst (λ (v : List ℕ). CanMove v mv) (same_file is f) can } in
    move_answers u c mv m x.1.given x.1.table a m' may room x.1.moves x.1.after

verdict_of : (x : SliceAnswer) (a : Answer) (out : List ℕ) → NotRefused a → a ≡ slice_answered x → ReadsCursor (saved_in out) (Ok (cursor_of_answer x))
    → (a.result ≡ 1 → ⊥) → (v : Verdict) × HostGives a out v
verdict_of (answer.Violated d n r) a out h e l p = (violated d.leg d.place r, told_to_c (answer.Violated d n r) a out (violated d.leg d.place r) e l refl)
verdict_of (answer.NothingViolated d n) a out h e l p = (nothing_violated, told_to_c (answer.NothingViolated d n) a out nothing_violated e l refl)
verdict_of (answer.Paused d n) a out h e l p = absurd (p (ap result_alone e))
verdict_of (answer.Refused refusal d) a out h e l p = absurd (omega (arith, ap result_alone e, h))

pub host_runs_go_on : HostRunsGoOn
host_runs_go_on = record {
  start = λ calls plan out a out' r h x. starts_go_on calls plan out a out' (carried calls plan r) h x;
  slice = λ latest earlier plan b out a out' r h x. slices_go_on latest earlier plan b out a out' (carried (latest ∷ earlier) plan r) h x;
  move_leg = λ latest earlier plan t mv m a m' r is can h room x.
      moves_go_on latest earlier plan t mv m a m' (carried (latest ∷ earlier) plan r) is can h
      (move_room_is_enough plan (saved_in (bytes_left latest)) mv m a m' h room x) x;
  verdict = λ plan cursor b a out y p.
      let s = slice_carried plan cursor b y.out a out y.not_refused y.slices in verdict_of s.told a out y.not_refused s.answer s.left p;
}

pub demand_three_for_c : DemandThreeForC
demand_three_for_c = record { sound = host_runs_are_sound; in_time = host_runs_end_in_time; go_on = host_runs_go_on }
