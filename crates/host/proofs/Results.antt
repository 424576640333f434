-- Each stage of a call has its refusals: the plan file 2 and 12 to 14, the cursor 12 to 14, the room 15, and a table that was read 4 to 11. The rest are results of calls that are not refused.
-- Assumes nothing.
use Rattle.files.specs.declared.Returned.{Returned}
use Rattle.std.specs.Prelude.{Result, Ok, Err}
use Rattle.basics.specs.Cause.{number_of}
use Rattle.basics.specs.declared.Cause.{Cause}
use Rattle.basics.specs.declared.Cause.TheVariants as cause
use Prim.Native.Nat.{ℕ, ◌-◌, ◌≤◌}
use mathlib.Core.Path.{◌≡◌, ap, subst, sym}
use mathlib.Core.List.{List}
use mathlib.Core.Logic.{◌⊎◌, inl, inr}
use native.Mathlib.Omega.{arith}
use Rattle.table.specs.Layout.{Sized}
use Rattle.table.specs.declared.Move.{Move}
use Rattle.files.specs.declared.Cursor.{Cursor}
use Rattle.files.proofs.Refused.{plan_refused, cursor_refused}
use Rattle.shape.specs.OfTables.{RefusalNumber}
use Rattle.shape.proofs.Refused.{up_to_room, shape_of_table, sized_refused}
use Rattle.checker.proofs.Refused.{cursor_of_table, move_of_table, slice_refused, move_refused}
use Rattle.rules.specs.declared.Rule.{Rule}
use Rattle.rules.specs.declared.Rule.TheVariants as rule
use Rattle.checker.specs.Slices.{Starts, Slices}
use Rattle.checker.specs.Moves.{Moves}
use Rattle.checker.specs.declared.SliceAnswer.{SliceAnswer}
use Rattle.checker.specs.declared.SliceAnswer.TheVariants as answer
use Rattle.places.specs.Order.{place_count}
use Rattle.host.specs.declared.Answer.{Answer}
use Rattle.host.specs.Answers.{rule_result, refusal, slice_answered, start_answered, result_alone}
use Rattle.host.specs.Calls.{Lent, AfterMove, HostStarts, HostSlices, HostMoves, HostConverts}
use Rattle.host.specs.Theorems.{SliceResult, IsRefusal, ResultsAreThese}

-- A refusal from 4 on, one for room, and one of the plan file.
refused_from_4 : (a : Answer) (k : Cause) (p : ℕ) → a ≡ refusal k p → number_of cause.BadLink ≤ number_of k → RefusalNumber (number_of k) → IsRefusal a.result
refused_from_4 a k p e l h =
    let n : number_of k ≡ a.result - 100 = omega (arith, ap result_alone e) in
    inr (omega (arith, ap result_alone e, l), subst RefusalNumber n h)

for_room : (a : Answer) (k : Cause) (p : ℕ) → a ≡ refusal k p → k ≡ cause.NoRoom → IsRefusal a.result
for_room a k p e x = let n = ap number_of x in refused_from_4 a k p e (omega arith) (up_to_room k (omega arith))

of_the_plan : (a : Answer) (k : Cause) (p : ℕ) → a ≡ refusal k p → (number_of k ≡ 2) ⊎ ((12 ≤ number_of k) × (number_of k ≤ 14)) → IsRefusal a.result
of_the_plan a k p e (inl x) = inl (omega (arith, ap result_alone e, x))
of_the_plan a k p e (inr x) = refused_from_4 a k p e (omega (arith, x.0)) (up_to_room k (omega (arith, x.1)))

-- The calls on a table that was read.
start_results : (t : List ℕ) (n : ℕ) (g : Result Cursor Returned) (a : Answer) → Sized t → Starts t g → a ≡ start_answered n g → (a.result ≡ 0) ⊎ IsRefusal a.result
start_results t n (Ok d) a z s e = inl (ap result_alone e)
start_results t n (Err d) a z s e = let k = d.refusal.cause in let p = d.refusal.at in inr (refused_from_4 a k p e (sized_refused t k p z s.0).0 (shape_of_table t k p s.0).number)

rule_results : (x : Rule) → SliceResult (rule_result x)
rule_results rule.Window = omega arith
rule_results rule.Hop = omega arith
rule_results rule.Deadline = omega arith
rule_results rule.Overlap = omega arith

slice_results : (t : List ℕ) (c : Cursor) (budget : ℕ) (x : SliceAnswer) (a : Answer)
    → Sized t → Slices t c budget x → a ≡ slice_answered x → SliceResult a.result ⊎ IsRefusal a.result
slice_results t c budget (answer.Violated d n r) a z s e = inl (omega (arith, ap result_alone e, rule_results r))
slice_results t c budget (answer.NothingViolated d n) a z s e = inl (omega (arith, ap result_alone e))
slice_results t c budget (answer.Paused d n) a z s e = inl (omega (arith, ap result_alone e))
slice_results t c budget (answer.Refused f d) a z s e =
    let k = f.cause in let p = f.at in inr (refused_from_4 a k p e (slice_refused t c k p z s.0) (cursor_of_table t c k p s.0).number)

move_results : (t : List ℕ) (c : Cursor) (mv : Move) (g : Result Cursor Returned) (u : List ℕ) (m : Lent) (a : Answer) (m' : Lent)
    → Sized t → Moves t c mv g u → AfterMove g u m a m' → (a.result ≡ 0) ⊎ IsRefusal a.result
move_results t c mv (Ok d) u m a m' z s (inl r) = inr (for_room a r.cause r.at r.answer r.fault.0)
move_results t c mv (Ok d) u m a m' z s (inr x) = inl (ap result_alone x.1.answer)
move_results t c mv (Err d) u m a m' z s x =
    let k = d.refusal.cause in let p = d.refusal.at in inr (refused_from_4 a k p x.0 (move_refused t c mv k p z s.0) (move_of_table t c mv k p s.0).number)

-- The calls on bytes.
start_these : (plan out : List ℕ) (a : Answer) (out' : List ℕ) → HostStarts plan out a out' → (a.result ≡ 0) ⊎ IsRefusal a.result
start_these plan out a out' (inl r) = inr (of_the_plan a r.cause r.at r.answer (plan_refused plan r.cause r.at r.fault))
start_these plan out a out' (inr (t, f, inl r)) = inr (for_room a r.cause r.at r.answer r.fault.0)
start_these plan out a out' (inr (t, f, inr x)) = let s = x.1 in start_results t (place_count t) s.given a f.complete s.starts s.answer

slice_these : (plan cursor : List ℕ) (budget : ℕ) (out : List ℕ) (a : Answer) (out' : List ℕ)
    → HostSlices plan cursor budget out a out' → SliceResult a.result ⊎ IsRefusal a.result
slice_these plan cursor budget out a out' (inl r) = inr (of_the_plan a r.cause r.at r.answer (plan_refused plan r.cause r.at r.fault))
slice_these plan cursor budget out a out' (inr (t, f, inl r)) =
    inr (of_the_plan a r.cause r.at r.answer (inr (cursor_refused cursor r.cause r.at r.fault)))
slice_these plan cursor budget out a out' (inr (t, f, inr (c, g, inl r))) = inr (for_room a r.cause r.at r.answer r.fault.0)
slice_these plan cursor budget out a out' (inr (t, f, inr (c, g, inr x))) =
    let s = x.1 in slice_results t c budget s.given a f.complete s.slices s.answer

move_these : (plan cursor : List ℕ) (mv : Move) (m : Lent) (a : Answer) (m' : Lent)
    → HostMoves plan cursor mv m a m' → (a.result ≡ 0) ⊎ IsRefusal a.result
move_these plan cursor mv m a m' (inl r) = inr (of_the_plan a r.cause r.at r.answer (plan_refused plan r.cause r.at r.fault))
move_these plan cursor mv m a m' (inr (t, f, inl r)) =
    inr (of_the_plan a r.cause r.at r.answer (inr (cursor_refused cursor r.cause r.at r.fault)))
move_these plan cursor mv m a m' (inr (t, f, inr (c, g, inl r))) = inr (for_room a r.cause r.at r.answer r.fault.0)
move_these plan cursor mv m a m' (inr (t, f, inr (c, g, inr x))) =
    let s = x.1 in move_results t c mv s.given s.table m a m' f.complete s.moves s.after

convert_these : (old file : List ℕ) (a : Answer) (file' : List ℕ) → HostConverts old file a file' → (a.result ≡ 0) ⊎ IsRefusal a.result
convert_these old file a file' (inl r) = inr (of_the_plan a r.cause r.at r.answer (plan_refused old r.cause r.at r.fault))
convert_these old file a file' (inr (u, f, inl r)) = inr (for_room a r.cause r.at r.answer r.fault.0)
convert_these old file a file' (inr (u, f, inr x)) = inl (ap result_alone x.1.answer)

pub results_are_these : ResultsAreThese
results_are_these = record {
  start = start_these;
  slice = λ plan cursor budget out r out' x.
      subst (λ (n : ℕ). SliceResult n ⊎ IsRefusal n) (sym x.is) (slice_these plan cursor budget out x.answer out' x.slices);
  slice_full = slice_these;
  move_leg = move_these;
  convert = convert_these;
}
