-- A granted move sets words of its leg and the revision, so that the new plan file has a few bytes more at the most; and no plan file is longer than the longest. No other
-- refusal of a move is 15. Assumes nothing.
use Rattle.files.specs.declared.Returned.{Returned}
use Rattle.std.specs.Prelude.{Result, Ok, Err}
use Rattle.basics.specs.Cause.{number_of}
use Rattle.basics.specs.declared.Cause.{Cause}
use Rattle.basics.specs.declared.Cause.TheVariants as cause
use Prim.Native.Nat.{ℕ, ◌+◌, ◌≤◌}
use mathlib.Core.Path.{◌≡◌, ap}
use mathlib.Core.List.{List, []}
use mathlib.Core.Logic.{◌⊎◌, inl, inr}
use native.Mathlib.Omega.{arith}
use lib.ListN.{length}
use Rattle.numbers.specs.Number.{bytes_of}
use Rattle.numbers.specs.Series.{file_of}
use Rattle.numbers.proofs.OneNumber.{number_bytes_at_most, next_number_bytes}
use Rattle.numbers.proofs.Rest.{rest_none, rest_last}
use Rattle.numbers.proofs.Rows.{file_set}
use Rattle.table.specs.Layout.{first_layout, revision_of, Sized}
use Rattle.table.specs.Records.{moved}
use Rattle.table.specs.declared.Move.{Move}
use Rattle.table.proofs.Moved.{moved_adds}
use Rattle.files.specs.Reading.{IsFile}
use Rattle.files.specs.Theorems.{max_cursor_bytes}
use Rattle.files.specs.declared.Cursor.{Cursor}
use Rattle.files.proofs.ComeBack.{file_bytes_at_most}
use Rattle.files.proofs.Refused.{plan_refused, cursor_refused}
use Rattle.shape.specs.Streams.{max_periods}
use Rattle.shape.specs.Shape.{WellFormedTable}
use Rattle.checker.specs.Moves.{CanMove, Moves}
use Rattle.checker.proofs.Moving.{shape_moved}
use Rattle.checker.proofs.Refused.{move_of_table}
use Rattle.editions.specs.Converted.{converted}
use Rattle.editions.proofs.Wider.{first_older, converted_sized}
use Rattle.host.specs.declared.Answer.{Answer}
use Rattle.host.specs.Answers.{refused_result, refusal, result_alone}
use Rattle.host.specs.Calls.{Lent, AfterMove, HostMoves}
use Rattle.host.specs.Theorems.{move_bytes, MoveRoomIsEnough, FullRoomIsEnough, ConvertRoomIsEnough}

-- A period word has one byte.
one_byte : (x : ℕ) → x ≤ max_periods → length (bytes_of x) ≡ 1
one_byte x h = ap length (rest_last x [] x (omega arith) (rest_none x (omega arith)))

moved_file_lem : {t : List ℕ} {mv : Move} → Sized t → CanMove t mv → length (file_of (moved t mv)) ≤ length (file_of t) + move_bytes
moved_file_lem {t} {mv} z can =
    moved_adds t z mv can.below (λ (l : List ℕ). length (file_of l)) (λ (x : ℕ). length (bytes_of x)) 4 1 file_set
    (λ x. (number_bytes_at_most x).0) (number_bytes_at_most mv.offset).1 (omega (arith, one_byte mv.periods can.periods)) (next_number_bytes (revision_of t))

-- A granted move has room; a refused one is refused with another number.
made_room : (t : List ℕ) (c : Cursor) (mv : Move) (m : Lent) (g : Result Cursor Returned) (u : List ℕ) (a : Answer) (m' : Lent)
    → Sized t → (WellFormedTable t → CanMove t mv → length (file_of (moved t mv)) ≤ length m.file)
    → Moves t c mv g u → AfterMove g u m a m' → a.result ≡ refused_result (number_of cause.NoRoom) → ⊥
made_room t c mv m (Ok d) u a m' z fits r (inl x) e =
    x.fault.2 (omega (arith, fits r.allowed.cursor.shape r.allowed.can, ap (λ (l : List ℕ). length (file_of l)) r.table))
made_room t c mv m (Ok d) u a m' z fits r (inr x) e = omega (arith, ap result_alone x.1.answer, e)
made_room t c mv m (Err d) u a m' z fits r x e =
    let i = ap result_alone x.0 in (move_of_table t c mv d.refusal.cause d.refusal.at r.0).not_of_bytes (omega arith, omega arith)

-- No plan file and no saved cursor is refused with 15, so it is enough that every new plan file fits.
module _ (plan cursor : List ℕ) (mv : Move) (m : Lent) (a : Answer) (m' : Lent) (e : a.result ≡ refused_result (number_of cause.NoRoom)) where
  not_of_the_plan : (k : Cause) (p : ℕ) → a ≡ refusal k p → (number_of k ≡ 2) ⊎ ((12 ≤ number_of k) × (number_of k ≤ 14)) → ⊥
  not_of_the_plan k p is (inl x) = omega (arith, ap result_alone is, e, x)
  not_of_the_plan k p is (inr x) = omega (arith, ap result_alone is, e, x.1)

  room_is_enough : max_cursor_bytes ≤ length m.out
      → ((t : List ℕ) → IsFile Sized plan t → WellFormedTable t → CanMove t mv → length (file_of (moved t mv)) ≤ length m.file)
      → HostMoves plan cursor mv m a m' → ⊥
  room_is_enough o fits (inl r) = not_of_the_plan r.cause r.at r.answer (plan_refused plan r.cause r.at r.fault)
  room_is_enough o fits (inr (t, f, inl r)) = omega (arith, ap result_alone r.answer, e, (cursor_refused cursor r.cause r.at r.fault).1)
  room_is_enough o fits (inr (t, f, inr (c, g, inl r))) = r.fault.2 o
  room_is_enough o fits (inr (t, f, inr (c, g, inr x))) =
      let s = x.1 in made_room t c mv m s.given s.table a m' f.complete (fits t f) s.moves s.after e

pub move_room_is_enough : MoveRoomIsEnough
move_room_is_enough plan cursor mv m a m' o h x e =
    room_is_enough plan cursor mv m a m' e o
    (λ t f w can. omega (arith, moved_file_lem w.sized can, ap length f.bytes, h))
    x

-- A move keeps the shape, so the new plan file is one like any other.
pub full_room_is_enough : FullRoomIsEnough
full_room_is_enough plan cursor mv m a m' o h x e =
    room_is_enough plan cursor mv m a m' e o
    (λ t f w can. omega (arith, file_bytes_at_most.1 (moved t mv) (shape_moved w can).sized, h))
    x

pub convert_room_is_enough : ConvertRoomIsEnough
convert_room_is_enough old file a file' h (inl r) e = not_of_the_file (plan_refused old r.cause r.at r.fault)
  where
    not_of_the_file : (number_of r.cause ≡ 2) ⊎ ((12 ≤ number_of r.cause) × (number_of r.cause ≤ 14)) → ⊥
    not_of_the_file (inl x) = omega (arith, ap result_alone r.answer, e, x)
    not_of_the_file (inr x) = omega (arith, ap result_alone r.answer, e, x.1)
convert_room_is_enough old file a file' h (inr (u, f, inl r)) e =
    r.fault.2 (omega (arith, h, file_bytes_at_most.1 (converted first_layout u) (converted_sized first_older u f.complete)))
convert_room_is_enough old file a file' h (inr (u, f, inr x)) e = omega (arith, ap result_alone x.1.answer, e)
