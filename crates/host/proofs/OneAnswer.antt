-- Each call for C has one answer and leaves one memory, since each stage has one. Assumes nothing.
use Rattle.files.specs.declared.Returned.{Returned}
use Rattle.std.specs.Prelude.{Result, Ok, Err}
use Rattle.basics.specs.Cause.{refused}
use Rattle.basics.specs.declared.Cause.{Cause}
use Rattle.basics.specs.declared.Cause.TheVariants as cause
use Rattle.basics.specs.declared.Refusal.{Refusal}
use Prim.Native.Nat.{ℕ, ◌≤◌}
use mathlib.Core.Path.{◌≡◌, ◌∙◌, sym, ap, subst}
use mathlib.Core.List.{List}
use mathlib.Core.Logic.{inl, inr}
use lib.ListN.{length}
use Rattle.basics.specs.Refusals.{unless}
use Rattle.basics.proofs.Refusals.{unless_one}
use Rattle.numbers.specs.Series.{file_of}
use Rattle.table.specs.Layout.{current, first_layout, SizedIn}
use Rattle.table.specs.declared.Edition.{Edition}
use Rattle.files.specs.Reading.{IsFile}
use Rattle.table.specs.declared.Move.{Move}
use Rattle.files.specs.Cursors.{ReadsCursor}
use Rattle.files.specs.Plan.{PlanFaultIn}
use Rattle.files.specs.Theorems.{max_cursor_bytes}
use Rattle.files.specs.declared.Cursor.{Cursor}
use Rattle.files.proofs.OneAnswer.{plan_fault_one, file_no_fault, same_file, read_cursor_one_answer}
use Rattle.places.specs.Order.{place_count}
use Rattle.checker.proofs.OneAnswer.{start_one_answer, slice_one_answer, move_one_answer}
use Rattle.editions.specs.Converted.{converted}
use Rattle.host.specs.declared.Answer.{Answer}
use Rattle.host.specs.Answers.{refusal, slice_answered, start_answered, bytes_after_slice, bytes_after_start, result_alone}
use Rattle.host.specs.Refusals.{CursorUnread, After, With, AfterPlanIn, AfterPlan, AfterCursor, AfterRoom}
use Rattle.host.specs.Calls.{Lent, AfterMove, BothWritten, FileWritten, WritesFile, Started, Sliced, MovedLeg, StartsTable, SlicesTable, MovesTable}
use Rattle.host.specs.Theorems.{OneAnswer, HostStartOneAnswer, HostSliceFullOneAnswer, HostSliceOneAnswer, HostMoveOneAnswer, HostConvertOneAnswer, SliceGivesTheResult}

-- What was read of a cursor: its parts.
cause_of : Result Cursor Refusal → Cause
cause_of (Ok c) = cause.LeftOver
cause_of (Err e) = e.cause

position_of : Result Cursor Refusal → ℕ
position_of (Ok c) = 0
position_of (Err e) = e.at

cursor_of_lem : Result Cursor Refusal → Cursor
cursor_of_lem (Ok c) = c
cursor_of_lem (Err e) = record { revision = 0; leg = 0; place = 0 }

unread_one : (s : List ℕ) (k : Cause) (p : ℕ) (l : Cause) (q : ℕ) → CursorUnread s k p → CursorUnread s l q → (k ≡ l) × (p ≡ q)
unfolding cause_of position_of
unread_one s k p l q f g = let e = read_cursor_one_answer s (refused k p) (refused l q) f g in (ap cause_of e, ap position_of e)

pub saved_one : (s : List ℕ) (c d : Cursor) → ReadsCursor s (Ok c) → ReadsCursor s (Ok d) → c ≡ d
unfolding cursor_of_lem
saved_one s c d f g = ap cursor_of_lem (read_cursor_one_answer s (Ok c) (Ok d) f g)

pub saved_not_unread : (s : List ℕ) (c : Cursor) (k : Cause) (p : ℕ) → ReadsCursor s (Ok c) → CursorUnread s k p → ⊥
saved_not_unread s c k p f g = let e = read_cursor_one_answer s (Ok c) (refused k p) f g in absurd (cc)

-- The stages. Two refusals are one, none is due where the next one speaks, and that has one answer.
module _ (M : Type 0) (m : M) where
  after_one : (Fault : Cause → ℕ → Type 0) (Next : Answer → M → Type 0) → ((k : Cause) (p : ℕ) (l : Cause) (q : ℕ) → Fault k p → Fault l q → (k ≡ l) × (p ≡ q))
      → ((a : Answer) (x : M) (k : Cause) (p : ℕ) → Next a x → Fault k p → ⊥) → OneAnswer Answer M Next → OneAnswer Answer M (After M Fault m Next)
  after_one Fault Next one none next a b x y (inl u) (inl v) =
      let e = one u.cause u.at v.cause v.at u.fault v.fault in (
        u.answer ∙ ap (λ (k : Cause). refusal k u.at) e.0 ∙ ap (refusal v.cause) e.1 ∙ sym v.answer,
        u.kept ∙ sym v.kept,
      )
  after_one Fault Next one none next a b x y (inl u) (inr v) = absurd (none b y u.cause u.at v u.fault)
  after_one Fault Next one none next a b x y (inr u) (inl v) = absurd (none a x v.cause v.at u v.fault)
  after_one Fault Next one none next a b x y (inr u) (inr v) = next a b x y u v

  with_one : (Value : Type 0) (Clear : Value → Type 0) (Then : Value → Answer → M → Type 0) → ((v w : Value) → Clear v → Clear w → v ≡ w)
      → ((v : Value) → OneAnswer Answer M (Then v)) → OneAnswer Answer M (With M Value Clear Then)
  with_one Value Clear Then same one a b x y (v, f, u) (w, g, z) = one v a b x y u (subst (λ (k : Value). Then k b y) (same w v g f) z)

  after_plan_in_one : (e : Edition) (s : List ℕ) (Then : List ℕ → Answer → M → Type 0) → ((t : List ℕ) → OneAnswer Answer M (Then t))
      → OneAnswer Answer M (AfterPlanIn e M s m Then)
  after_plan_in_one e s Then one =
      after_one (PlanFaultIn e s) (With M (List ℕ) (IsFile (SizedIn e) s) Then) (plan_fault_one s) (λ a x k p c f. file_no_fault c.1 f)
      (with_one (List ℕ) (IsFile (SizedIn e) s) Then (λ t u f g. same_file f g) one)

  pub after_plan_one : (s : List ℕ) (Then : List ℕ → Answer → M → Type 0) → ((t : List ℕ) → OneAnswer Answer M (Then t)) → OneAnswer Answer M (AfterPlan M s m Then)
  after_plan_one = after_plan_in_one current

  after_cursor_one : (s : List ℕ) (Then : Cursor → Answer → M → Type 0) → ((c : Cursor) → OneAnswer Answer M (Then c)) → OneAnswer Answer M (AfterCursor M s m Then)
  after_cursor_one s Then one =
      let Clear : Cursor → Type 0 = λ c. ReadsCursor s (Ok c) in
      after_one (CursorUnread s) (With M Cursor Clear Then) (unread_one s) (λ a x k p c f. saved_not_unread s c.0 k p c.1 f)
      (with_one Cursor Clear Then (saved_one s) one)

  after_room_one : (room needed : ℕ) (Then : Answer → M → Type 0) → OneAnswer Answer M Then → OneAnswer Answer M (AfterRoom M room needed m Then)
  after_room_one room needed Then one =
      let none = unless_one cause.NoRoom (needed ≤ room) in
      after_one (unless cause.NoRoom (needed ≤ room)).Fault (λ a x. (needed ≤ room) × Then a x) (λ k p l q f g. none.one f g) (λ a x k p c f. f.2 c.0)
      (λ a b x y u v. one a b x y u.1 v.1)

-- The calls.
started_one : (t out : List ℕ) → OneAnswer Answer (List ℕ) (Started t out)
started_one t out a b x y u v =
    let e = start_one_answer t u.given v.given u.starts v.starts in
    (u.answer ∙ ap (start_answered (place_count t)) e ∙ sym v.answer, u.after ∙ ap (bytes_after_start out) e ∙ sym v.after)

sliced_one : (t : List ℕ) (c : Cursor) (budget : ℕ) (out : List ℕ) → OneAnswer Answer (List ℕ) (Sliced t c budget out)
sliced_one t c budget out a b x y u v =
    let e = slice_one_answer t c budget u.given v.given u.slices v.slices in
    (u.answer ∙ ap slice_answered e ∙ sym v.answer, u.after ∙ ap (bytes_after_slice out) e ∙ sym v.after)

written_one : (u : List ℕ) (d : Cursor) (m : Lent) → OneAnswer Answer Lent (BothWritten u d m)
written_one u d m a b x y v w = (v.answer ∙ sym w.answer, v.after ∙ sym w.after)

after_move_one : (g : Result Cursor Returned) (u : List ℕ) (m : Lent) → OneAnswer Answer Lent (AfterMove g u m)
after_move_one (Ok d) u m a b x y v w =
    after_room_one Lent m (length m.file) (length (file_of u)) (BothWritten u d m) (written_one u d m) a b x y v w
after_move_one (Err d) u m a b x y v w = (v.0 ∙ sym w.0, v.1 ∙ sym w.1)

move_made_one : (t : List ℕ) (c : Cursor) (mv : Move) (m : Lent) → OneAnswer Answer Lent (MovedLeg t c mv m)
move_made_one t c mv m a b x y u v =
    let e = move_one_answer t c mv v.given u.given v.table u.table v.moves u.moves in
    let w = subst (λ (g : Result Cursor Returned). AfterMove g v.table m b y) e.0 v.after in
    after_move_one u.given u.table m a b x y u.after (subst (λ (z : List ℕ). AfterMove u.given z m b y) e.1 w)

pub host_start_one_answer : HostStartOneAnswer
host_start_one_answer plan out =
    after_plan_one (List ℕ) out plan (λ (t : List ℕ). StartsTable t out)
    (λ t. after_room_one (List ℕ) out (length out) max_cursor_bytes (Started t out) (started_one t out))

pub host_slice_full_one_answer : HostSliceFullOneAnswer
host_slice_full_one_answer plan cursor budget out =
    after_plan_one (List ℕ) out plan (λ (t : List ℕ). AfterCursor (List ℕ) cursor out (λ (c : Cursor). SlicesTable t c budget out))
    (λ t. after_cursor_one (List ℕ) out cursor (λ (c : Cursor). SlicesTable t c budget out)
    (λ c. after_room_one (List ℕ) out (length out) max_cursor_bytes (Sliced t c budget out) (sliced_one t c budget out)))

pub host_move_one_answer : HostMoveOneAnswer
host_move_one_answer plan cursor mv m =
    after_plan_one Lent m plan (λ (t : List ℕ). AfterCursor Lent cursor m (λ (c : Cursor). MovesTable t c mv m))
    (λ t. after_cursor_one Lent m cursor (λ (c : Cursor). MovesTable t c mv m)
    (λ c. after_room_one Lent m (length m.out) max_cursor_bytes (MovedLeg t c mv m) (move_made_one t c mv m)))

pub host_convert_one_answer : HostConvertOneAnswer
host_convert_one_answer old file =
    after_plan_in_one (List ℕ) file first_layout old (λ (u : List ℕ). WritesFile (converted first_layout u) file)
    (λ u. after_room_one (List ℕ) file (length file) (length (file_of (converted first_layout u))) (FileWritten (converted first_layout u) file)
    (λ a b x y v w. (v.answer ∙ sym w.answer, v.after ∙ sym w.after)))

-- The result alone.
pub slice_gives_the_result : SliceGivesTheResult
slice_gives_the_result plan cursor budget out r a x y u v =
    let e = host_slice_full_one_answer plan cursor budget out u.answer a x y u.slices v in (u.is ∙ ap result_alone e.0, e.1)

pub host_slice_one_answer : HostSliceOneAnswer
host_slice_one_answer plan cursor budget out r s x y u v =
    let e = slice_gives_the_result plan cursor budget out r v.answer x y u v.slices in (e.0 ∙ sym v.is, e.1)
