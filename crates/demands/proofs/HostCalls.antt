-- A call for C that was not refused is a call of start, slice or move over the table whose file the plan is, and the bytes that it left read as the cursor that it
-- handed out and the table that it made. Assumes nothing.
use Rattle.std.specs.Prelude.{Result, Ok, Err}
use Rattle.files.specs.declared.Returned.{Returned}
use Prim.Native.Nat.{ℕ, ◌≤◌}
use mathlib.Core.Path.{◌≡◌, ◌∙◌, sym, ap, subst}
use mathlib.Core.List.{List}
use mathlib.Core.Logic.{inl, inr}
use lib.ListN.{length, take}
use native.Mathlib.Omega.{arith}
use Rattle.numbers.specs.Number.{max_word}
use Rattle.numbers.specs.Series.{AllWords, file_of}
use Rattle.numbers.proofs.Overlay.{overlaid_taken}
use Rattle.numbers.proofs.Rows.{words_of}
use Rattle.table.specs.Layout.{Sized}
use Rattle.table.specs.Records.{moved}
use Rattle.table.specs.declared.Move.{Move}
use Rattle.table.proofs.Moved.{moved_each}
use Rattle.files.specs.Reading.{IsFile}
use Rattle.files.specs.Cursors.{cursor_words, ReadsCursor}
use Rattle.files.specs.declared.Cursor.{Cursor}
use Rattle.places.specs.Order.{PlaceOrEnd}
use Rattle.checker.specs.Slices.{Starts, Slices, start_cursor, Went}
use Rattle.checker.specs.Moves.{CanMove, Moves}
use Rattle.checker.specs.declared.SliceAnswer.{SliceAnswer}
use Rattle.checker.specs.declared.SliceAnswer.TheVariants as answer
use Rattle.checker.proofs.Moving.{shape_moved}
use Rattle.checker.proofs.OneAnswer.{lesser_stands}
use Rattle.host.specs.Answers.{slice_answered, start_answered, bytes_after_slice, bytes_after_start, result_alone}
use Rattle.host.specs.Calls.{Lent, AfterMove, HostStarts, HostSlices, HostMoves}
use Rattle.host.specs.declared.Answer.{Answer}
use Rattle.demands.specs.Runs.{cursor_of_answer}
use Rattle.demands.specs.HostRuns.{saved_in, MoveOfWords, NotRefused}
use Rattle.demands.proofs.SavedCursors.{holds_cursor, word_at, cursor_words_lem}

-- A start that was not refused.
pub record StartCarried (plan out' : List ℕ) : Type 0 where
  pub table : List ℕ
  pub file : IsFile Sized plan table
  pub cursor : Cursor
  pub starts : Starts table (Ok cursor)
  pub left : ReadsCursor (saved_in out') (Ok cursor)

start_of : (plan t out out' : List ℕ) (n : ℕ) (g : Result Cursor Returned) (a : Answer) → IsFile Sized plan t → Starts t g → NotRefused a → a ≡ start_answered n g
    → out' ≡ bytes_after_start out g → StartCarried plan out'
start_of plan t out out' n (Ok d) a f s h e k =
    let w : AllWords (cursor_words (start_cursor t)) = (word_at t f.words 0, (omega arith, (omega arith, tt))) in
    record { table = t; file = f; cursor = d; starts = s; left = holds_cursor out out' d (subst (λ (c : Cursor). AllWords (cursor_words c)) (sym s.1) w) k }
start_of plan t out out' n (Err d) a f s h e k = absurd (omega (arith, ap result_alone e, h))

pub start_carried : (plan out : List ℕ) (a : Answer) (out' : List ℕ) → NotRefused a → HostStarts plan out a out' → StartCarried plan out'
start_carried plan out a out' h (inl r) = absurd (omega (arith, ap result_alone r.answer, h))
start_carried plan out a out' h (inr (t, f, inl r)) = absurd (omega (arith, ap result_alone r.answer, h))
start_carried plan out a out' h (inr (t, f, inr x)) = let s = x.1 in start_of plan t out out' _ s.given a f s.starts h s.answer s.after

-- A slice that was not refused.
pub record SliceCarried (plan cursor : List ℕ) (budget : ℕ) (a : Answer) (out' : List ℕ) : Type 0 where
  pub table : List ℕ
  pub file : IsFile Sized plan table
  pub from : Cursor
  pub given : ReadsCursor cursor (Ok from)
  pub told : SliceAnswer
  pub slices : Slices table from budget told
  pub answer : a ≡ slice_answered told
  pub left : ReadsCursor (saved_in out') (Ok (cursor_of_answer told))

went_words : (t : List ℕ) (c d : Cursor) (n : ℕ) → Sized t → AllWords t → Went t c d n → PlaceOrEnd t d.leg d.place → AllWords (cursor_words d)
went_words t c d n z w x s = cursor_words_lem t d z (omega (arith, x.revision, word_at t w 0)) s

slice_left : (t out out' : List ℕ) (c : Cursor) (budget : ℕ) (x : SliceAnswer) (a : Answer) → Sized t → AllWords t → Slices t c budget x → NotRefused a
    → a ≡ slice_answered x → out' ≡ bytes_after_slice out x → ReadsCursor (saved_in out') (Ok (cursor_of_answer x))
slice_left t out out' c b (answer.Violated d n r) a z w s h e k = holds_cursor out out' d (went_words t c d _ z w s.1.went (inl s.1.place)) k
slice_left t out out' c b (answer.NothingViolated d n) a z w s h e k = holds_cursor out out' d (went_words t c d _ z w s.1.went (inr s.1.end)) k
slice_left t out out' c b (answer.Paused d n) a z w s h e k = holds_cursor out out' d (went_words t c d _ z w s.1.went (inl s.1.place)) k
slice_left t out out' c b (answer.Refused refusal d) a z w s h e k = absurd (omega (arith, ap result_alone e, h))

pub slice_carried : (plan cursor : List ℕ) (budget : ℕ) (out : List ℕ) (a : Answer) (out' : List ℕ) → NotRefused a → HostSlices plan cursor budget out a out'
    → SliceCarried plan cursor budget a out'
slice_carried plan cursor b out a out' h (inl r) = absurd (omega (arith, ap result_alone r.answer, h))
slice_carried plan cursor b out a out' h (inr (t, f, inl r)) = absurd (omega (arith, ap result_alone r.answer, h))
slice_carried plan cursor b out a out' h (inr (t, f, inr (c, g, inl r))) = absurd (omega (arith, ap result_alone r.answer, h))
slice_carried plan cursor b out a out' h (inr (t, f, inr (c, g, inr x))) =
    let s = x.1 in
    record {
      table = t;
      file = f;
      from = c;
      given = g;
      told = s.given;
      slices = s.slices;
      answer = s.answer;
      left = slice_left t out out' c b s.given a f.complete f.words s.slices h s.answer s.after;
    }

-- A move that was not refused.
pub record MoveCarried (old cursor : List ℕ) (mv : Move) (m' : Lent) (plan : List ℕ) : Type 0 where
  pub before : List ℕ
  pub before_file : IsFile Sized old before
  pub from : Cursor
  pub given : ReadsCursor cursor (Ok from)
  pub to : Cursor
  pub table : List ℕ
  pub moves : Moves before from mv (Ok to) table
  pub file : IsFile Sized plan table
  pub left : ReadsCursor (saved_in m'.out) (Ok to)

moved_words : (t : List ℕ) (mv : Move) → Sized t → CanMove t mv → AllWords t → MoveOfWords mv → AllWords (moved t mv)
moved_words t mv z can w o = words_of (moved t mv) (moved_each t z mv can.below (λ (n : ℕ). n ≤ max_word) (λ i. word_at t w i) (omega (arith, can.rises)) o)

move_of : (old plan cursor t : List ℕ) (c : Cursor) (mv : Move) (m m' : Lent) (g : Result Cursor Returned) (u : List ℕ) (a : Answer)
    → IsFile Sized old t → ReadsCursor cursor (Ok c) → MoveOfWords mv → Moves t c mv g u → NotRefused a → AfterMove g u m a m'
    → plan ≡ take a.beside m'.file → MoveCarried old cursor mv m' plan
move_of old plan cursor t c mv m m' (Ok d) u a f q o r h (inl x) e = absurd (omega (arith, ap result_alone x.answer, h))
move_of old plan cursor t c mv m m' (Ok d) u a f q o r h (inr x) e =
    let y = x.1 in
    let w = r.allowed.cursor.shape in
    let can = r.allowed.can in
    let z : Sized u = subst Sized (sym r.table) (shape_moved w can).sized in
    let ws : AllWords u = subst AllWords (sym r.table) (moved_words t mv w.sized can f.words o) in
    let size : a.beside ≡ length (file_of u) = ap (λ (b : Answer). b.beside) y.answer in
    let bytes : plan ≡ file_of u
    = e ∙ ap (λ (n : ℕ). take n m'.file) size ∙ ap (λ (l : Lent). take (length (file_of u)) l.file) y.after ∙ overlaid_taken m.file (file_of u) in
    let stands : PlaceOrEnd t d.leg d.place = lesser_stands r.allowed.cursor can.below r.lesser in
    let dw = cursor_words_lem t d w.sized (omega (arith, r.revision, can.rises)) stands in
    record {
      before = t;
      before_file = f;
      from = c;
      given = q;
      to = d;
      table = u;
      moves = r;
      file = record { complete = z; words = ws; bytes = bytes };
      left = holds_cursor m.out m'.out d dw (ap (λ (l : Lent). l.out) y.after);
    }
move_of old plan cursor t c mv m m' (Err d) u a f q o r h x e = absurd (omega (arith, ap result_alone x.0, h))

pub move_carried : (old plan cursor : List ℕ) (mv : Move) (m m' : Lent) (a : Answer) → MoveOfWords mv → NotRefused a → HostMoves old cursor mv m a m'
    → plan ≡ take a.beside m'.file → MoveCarried old cursor mv m' plan
move_carried old plan cursor mv m m' a o h (inl r) e = absurd (omega (arith, ap result_alone r.answer, h))
move_carried old plan cursor mv m m' a o h (inr (t, f, inl r)) e = absurd (omega (arith, ap result_alone r.answer, h))
move_carried old plan cursor mv m m' a o h (inr (t, f, inr (c, g, inl r))) e = absurd (omega (arith, ap result_alone r.answer, h))
move_carried old plan cursor mv m m' a o h (inr (t, f, inr (c, g, inr x))) e =
    let s = x.1 in move_of old plan cursor t c mv m m' s.given s.table a f g o s.moves h s.after e

pub slices_of : (t u : List ℕ) (c d : Cursor) (budget : ℕ) (x : SliceAnswer) → u ≡ t → d ≡ c → Slices u d budget x → Slices t c budget x
slices_of t u c d b x e f s = subst (λ (v : List ℕ). Slices v c b x) e (subst (λ (k : Cursor). Slices u k b x) f s)

pub moves_of : (t u : List ℕ) (c d : Cursor) (mv : Move) (g : Result Cursor Returned) (v : List ℕ) → u ≡ t → d ≡ c → Moves u d mv g v → Moves t c mv g v
moves_of t u c d mv g v e f s = subst (λ (w : List ℕ). Moves w c mv g v) e (subst (λ (k : Cursor). Moves u k mv g v) f s)
