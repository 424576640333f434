-- What holds of every outcome of a call for C: a refusal writes nothing, each other result is below 100, and a fault of the plan file comes first. Assumes nothing.
use Rattle.host.proofs.Laws.{number_once}
use Rattle.files.specs.declared.Returned.{Returned}
use Rattle.std.specs.Prelude.{Result, Ok, Err}
use Rattle.basics.specs.Cause.{number_of}
use Rattle.basics.specs.declared.Cause.{Cause}
use Rattle.basics.specs.declared.Cause.TheVariants as cause
use Prim.Native.Nat.{ℕ, ◌≤◌, ◌<◌}
use mathlib.Core.Path.{◌≡◌, refl, ◌∙◌, sym, ap, subst}
use mathlib.Core.List.{List}
use mathlib.Core.Logic.{inl, inr}
use native.Mathlib.Omega.{arith}
use lib.ListN.{length}
use Rattle.basics.specs.Refusals.{unless}
use Rattle.files.specs.Plan.{PlanFaultIn, PlanFault}
use Rattle.files.specs.Theorems.{max_cursor_bytes}
use Rattle.files.specs.declared.Cursor.{Cursor}
use Rattle.files.proofs.OneAnswer.{plan_fault_one, file_no_fault}
use Rattle.numbers.specs.Series.{file_of}
use Rattle.table.specs.Layout.{current, first_layout}
use Rattle.table.specs.declared.Edition.{Edition}
use Rattle.shape.proofs.Refused.{shape_of_table}
use Rattle.rules.specs.declared.Rule.{Rule}
use Rattle.rules.specs.declared.Rule.TheVariants as rule
use Rattle.places.specs.Order.{place_count}
use Rattle.checker.specs.Slices.{Starts}
use Rattle.checker.specs.declared.SliceAnswer.{SliceAnswer}
use Rattle.checker.specs.declared.SliceAnswer.TheVariants as answer
use Rattle.editions.specs.Converted.{converted}
use Rattle.host.specs.declared.Answer.{Answer}
use Rattle.host.specs.Answers.{refused_result, rule_result, refusal, slice_answered, start_answered, bytes_after_slice, bytes_after_start, result_alone}
use Rattle.host.specs.Refusals.{CursorUnread, After, AfterPlanIn, AfterPlan, AfterCursor, AfterRoom}
use Rattle.host.specs.Calls.{Lent, AfterMove, FileWritten, WritesFile, Started, Sliced, MovedLeg, StartsTable, SlicesTable, MovesTable, HostStarts, HostSlices}
use Rattle.host.specs.Theorems.{Keeps, HostRefusalsWriteNothing, PlanFaultsComeFirst, ResultsOfThePaper}

-- A refusal at any stage keeps the memory, so what comes after the stage decides.
module _ (M : Type 0) (m : M) where
  after_keeps : (Fault : Cause → ℕ → Type 0) (Next : Answer → M → Type 0) → Keeps M m Next → Keeps M m (After M Fault m Next)
  after_keeps Fault Next keeps a m' (inl x) h = x.kept
  after_keeps Fault Next keeps a m' (inr x) h = keeps a m' x h

  after_plan_in_keeps : (e : Edition) (s : List ℕ) (Then : List ℕ → Answer → M → Type 0) → ((t : List ℕ) → Keeps M m (Then t)) → Keeps M m (AfterPlanIn e M s m Then)
  after_plan_in_keeps e s Then keeps = after_keeps (PlanFaultIn e s) _ (λ a m' x h. keeps x.0 a m' x.2 h)

  pub after_plan_keeps : (s : List ℕ) (Then : List ℕ → Answer → M → Type 0) → ((t : List ℕ) → Keeps M m (Then t)) → Keeps M m (AfterPlan M s m Then)
  after_plan_keeps = after_plan_in_keeps current

  after_cursor_keeps : (s : List ℕ) (Then : Cursor → Answer → M → Type 0) → ((c : Cursor) → Keeps M m (Then c)) → Keeps M m (AfterCursor M s m Then)
  after_cursor_keeps s Then keeps = after_keeps (CursorUnread s) _ (λ a m' x h. keeps x.0 a m' x.2 h)

  after_room_keeps : (room needed : ℕ) (Then : Answer → M → Type 0) → Keeps M m Then → Keeps M m (AfterRoom M room needed m Then)
  after_room_keeps room needed Then keeps = after_keeps (unless cause.NoRoom (needed ≤ room)).Fault _ (λ a m' x h. keeps a m' x.1 h)

-- The results of the calls themselves: those that are no refusals are below 100.
rule_small : (x : Rule) → rule_result x < refused_result 0
rule_small rule.Window = omega arith
rule_small rule.Hop = omega arith
rule_small rule.Deadline = omega arith
rule_small rule.Overlap = omega arith

start_keeps : (out out' : List ℕ) (n : ℕ) (g : Result Cursor Returned) (a : Answer) → a ≡ start_answered n g → out' ≡ bytes_after_start out g → refused_result 0 ≤ a.result → out' ≡ out
start_keeps out out' n (Ok d) a e f h = absurd (omega (arith, ap result_alone e, h))
start_keeps out out' n (Err d) a e f h = f

slice_keeps : (out out' : List ℕ) (x : SliceAnswer) (a : Answer) → a ≡ slice_answered x → out' ≡ bytes_after_slice out x → refused_result 0 ≤ a.result → out' ≡ out
slice_keeps out out' (answer.Violated d n r) a e f h = absurd (omega (arith, ap result_alone e, h, rule_small r))
slice_keeps out out' (answer.NothingViolated d n) a e f h = absurd (omega (arith, ap result_alone e, h))
slice_keeps out out' (answer.Paused d n) a e f h = absurd (omega (arith, ap result_alone e, h))
slice_keeps out out' (answer.Refused q d) a e f h = f

move_keeps : (m : Lent) (g : Result Cursor Returned) (u : List ℕ) → Keeps Lent m (AfterMove g u m)
move_keeps m (Ok d) u a m' (inl x) h = x.kept
move_keeps m (Ok d) u a m' (inr x) h = absurd (omega (arith, ap result_alone x.1.answer, h))
move_keeps m (Err d) u a m' x h = x.1

slices_keep : (plan cursor : List ℕ) (budget : ℕ) (out : List ℕ) → Keeps (List ℕ) out (HostSlices plan cursor budget out)
slices_keep plan cursor budget out =
    after_plan_keeps (List ℕ) out plan (λ (t : List ℕ). AfterCursor (List ℕ) cursor out (λ (c : Cursor). SlicesTable t c budget out))
    (λ t. after_cursor_keeps (List ℕ) out cursor (λ (c : Cursor). SlicesTable t c budget out)
    (λ c. after_room_keeps (List ℕ) out (length out) max_cursor_bytes (Sliced t c budget out)
    (λ a out' x. slice_keeps out out' x.given a x.answer x.after)))

pub host_refusals_write_nothing : HostRefusalsWriteNothing
host_refusals_write_nothing = record {
  start = λ plan out.
      after_plan_keeps (List ℕ) out plan (λ (t : List ℕ). StartsTable t out)
      (λ t. after_room_keeps (List ℕ) out (length out) max_cursor_bytes (Started t out)
      (λ a out' x. start_keeps out out' (place_count t) x.given a x.answer x.after));
  slice = slices_keep;
  slice_alone = λ plan cursor budget out r out' x h. slices_keep plan cursor budget out x.answer out' x.slices (omega (arith, x.is, h));
  move_leg = λ plan cursor mv m.
      after_plan_keeps Lent m plan (λ (t : List ℕ). AfterCursor Lent cursor m (λ (c : Cursor). MovesTable t c mv m))
      (λ t. after_cursor_keeps Lent m cursor (λ (c : Cursor). MovesTable t c mv m)
      (λ c. after_room_keeps Lent m (length m.out) max_cursor_bytes (MovedLeg t c mv m)
      (λ a m' x. move_keeps m x.given x.table a m' x.after)));
  convert = λ old file.
      after_plan_in_keeps (List ℕ) file first_layout old (λ (u : List ℕ). WritesFile (converted first_layout u) file)
      (λ u. after_room_keeps (List ℕ) file (length file) (length (file_of (converted first_layout u))) (FileWritten (converted first_layout u) file)
      (λ a file' x h. absurd (omega (arith, ap result_alone x.answer, h))));
}

-- A fault of the plan file.
pub first_fault : (M : Type 0) (m : M) (s : List ℕ) (Then : List ℕ → Answer → M → Type 0) (k : Cause) (p : ℕ) (a : Answer) (m' : M)
    → PlanFault s k p → AfterPlan M s m Then a m' → a ≡ refusal k p
first_fault M m s Then k p a m' f (inl x) =
    let e = plan_fault_one s x.cause x.at k p x.fault f in
    x.answer ∙ ap (λ (l : Cause). refusal l x.at) e.0 ∙ ap (refusal k) e.1
first_fault M m s Then k p a m' f (inr (t, g, x)) = absurd (file_no_fault g f)

-- After the plan reader a start is refused with 15 or as a table is, which is with none of 12 to 14.
not_granted_lem : (t : List ℕ) (n : ℕ) (k : Cause) (p : ℕ) (g : Result Cursor Returned) → 12 ≤ number_of k → number_of k ≤ 14 → Starts t g → refusal k p ≡ start_answered n g → ⊥
not_granted_lem t n k p (Ok d) h l s e = omega (arith, ap result_alone e)
not_granted_lem t n k p (Err d) h l s e =
    let i = ap result_alone e in (shape_of_table t d.refusal.cause d.refusal.at s.0).not_of_bytes (omega arith, omega arith)

of_the_plan : (plan out : List ℕ) (k : Cause) (p : ℕ) (out' : List ℕ) → 12 ≤ number_of k → number_of k ≤ 14 → HostStarts plan out (refusal k p) out' → PlanFault plan k p
of_the_plan plan out k p out' h l (inl x) =
    let e : x.cause ≡ k = number_once x.cause k (omega (arith, ap result_alone x.answer)) in
    let f : x.at ≡ p = sym (ap (λ (a : Answer). a.beside) x.answer) in
    subst (λ (q : ℕ). PlanFault plan k q) f (subst (λ (j : Cause). PlanFault plan j x.at) e x.fault)
of_the_plan plan out k p out' h l (inr (t, g, inl x)) = absurd (omega (arith, ap result_alone x.answer, ap number_of x.fault.0))
of_the_plan plan out k p out' h l (inr (t, g, inr x)) = absurd (not_granted_lem t (place_count t) k p x.1.given h l x.1.starts x.1.answer)

pub plan_faults_come_first : PlanFaultsComeFirst
plan_faults_come_first = record {
  start = λ plan out k p a out' f x. first_fault (List ℕ) out plan (λ (t : List ℕ). StartsTable t out) k p a out' f x;
  slice = λ plan cursor budget out k p a out' f x.
      first_fault (List ℕ) out plan (λ (t : List ℕ). AfterCursor (List ℕ) cursor out (λ (c : Cursor). SlicesTable t c budget out)) k p a out' f x;
  move_leg = λ plan cursor mv m k p a m' f x.
      first_fault Lent m plan (λ (t : List ℕ). AfterCursor Lent cursor m (λ (c : Cursor). MovesTable t c mv m)) k p a m' f x;
  no_other = of_the_plan;
}

pub results_of_the_paper : ResultsOfThePaper
results_of_the_paper = record {
  nothing_violated = λ d n. refl;
  paused = λ d n. refl;
  window = λ d n. refl;
  hop = λ d n. refl;
  deadline = λ d n. refl;
  overlap = λ d n. refl;
  refused = λ e d. refl;
  started = λ n d. refl;
  not_started = λ n r. refl;
  room = refl;
  largest = refl;
}
