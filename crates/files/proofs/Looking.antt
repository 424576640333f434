-- A plan file looked through: a header and its records are the table, and what is refused after a header is refused after the header and
-- the records so far.
-- Assumes nothing.
use Prim.Native.Nat.{ℕ, ◌-◌, ◌≤◌, ◌<◌}
use mathlib.Core.Path.{◌≡◌, refl, ◌∙◌, sym, ap, subst}
use mathlib.Core.List.{List, [], ◌∷◌, ◌++◌}
use mathlib.Core.Logic.{inr}
use lib.ListN.{length, get_or, length-append}
use native.Mathlib.Omega.{arith}
use Rattle.numbers.specs.Series.{file_of, Row, overlaid, Laid}
use Rattle.numbers.specs.Steps.{Numbers, AllNumbers, Stopped, Filled}
use Rattle.numbers.proofs.Rows.{row_append, row_whole, row_same, file_row}
use Rattle.table.specs.Layout.{head_words, words_in, LimitsIn, SizedIn}
use Rattle.table.specs.declared.Edition.{Edition}
use Rattle.table.proofs.Headers.{SameHeader, header_in_front, limits_same, words_same}
use Rattle.files.specs.Reading.{IsFile, Cut, Over}
use Rattle.files.specs.Plan.{PlanDueIn}
use Rattle.files.specs.Steps.{PlanTold}
use Rattle.files.specs.Cursors.{cursor_numbers, CursorComplete}
use Rattle.std.specs.Prelude.{Ok}
use Rattle.basics.specs.declared.Cause.{Cause}

-- The numbers of a header within its limits, in an edition where its table has so many words.
pub record Header (e : Edition) (s h : List ℕ) (next size : ℕ) : Type 0 where
  pub five : length h ≡ head_words
  pub row : Row s 0 h next
  pub within : LimitsIn e h × (size ≡ words_in e h)

-- After such a header: the table, and the records up to p.
module _ {e : Edition} {s h : List ℕ} {next size : ℕ} (d : Header e s h next size) where
  pub header_first : head_words ≤ size
  header_first = omega (arith, d.within.1)

  front : (r : List ℕ) → SameHeader h (h ++ r)
  front r = header_in_front h r (omega (arith, d.five))

  -- All records stand: the table is whole.
  table_whole : (r : List ℕ) → length r ≡ size - head_words → SizedIn e (h ++ r)
  table_whole r n =
      let l = length-append h r in
      let k = words_same e (front r) in
      record { head = omega (arith, d.five); limits = limits_same e (front r) d.within.0; exact = omega (arith, d.five, d.within.1) }

  module _ {p : ℕ} (n : Numbers s next (size - head_words) p) where
    pub table_over : p < length s → Over (SizedIn e) s p
    table_over z = record { ws = h ++ n.ws; row = row_append h n.ws d.row n.row; complete = table_whole n.ws n.count; left_over_lem = z }

    pub table_is : length s ≤ p → IsFile (SizedIn e) s (h ++ n.ws)
    table_is z =
        let t = row_append h n.ws d.row n.row in
        record { complete = table_whole n.ws n.count; words = t.words; bytes = row_whole (h ++ n.ws) t z }

    pub table_size : size ≡ length (h ++ n.ws)
    table_size = omega (arith, length-append h n.ws, d.five, n.count, d.within.1)

    pub table_file : length s ≤ p → PlanTold e s (Ok size)
    table_file z = (h ++ n.ws, table_is z, table_size)

  -- A record is cut short: another number is due.
  pub table_cut : {k : Cause} {p : ℕ} → Stopped s next (size - head_words) k p → Cut (PlanDueIn e) s k p
  table_cut x =
      let l = length-append h x.ws in
      let k = words_same e (front x.ws) in
      record {
        ws = h ++ x.ws;
        row = row_append h x.ws d.row x.row;
        due = inr (limits_same e (front x.ws) d.within.0, omega (arith, d.five, d.within.1, x.short));
        no_number = x.no_number;
      }

-- The words of a file stand in it.
pub all_numbers : {Complete : List ℕ → Type 0} {s : List ℕ} {n : ℕ} (t : List ℕ) → IsFile Complete s t → n ≡ length t → AllNumbers s 0 n
all_numbers t f e = (length (file_of t), record { ws = t; count = sym e; row = rw f.bytes (file_row t f.words) })

-- What was filled from the file of a table is that table.
pub filled_table : {Complete : List ℕ → Type 0} {s b b' : List ℕ} {n : ℕ} (t : List ℕ) → IsFile Complete s t → n ≡ length t → n ≤ length b → Filled s 0 n b b' → Laid b 0 t n b'
filled_table {s = s} {b = b} t f e h l =
    let r : Row s 0 t (length (file_of t)) = rw f.bytes (file_row t f.words) in
    record { count = e; room = omega arith; after = l.after ∙ ap (overlaid b 0) (row_same l.ws t l.row r (l.count ∙ e)).0 }

-- Three words, one by one.
three_words : (ws : List ℕ) → length ws ≡ cursor_numbers → get_or ws 0 0 ∷ get_or ws 1 0 ∷ get_or ws 2 0 ∷ [] ≡ ws
three_words [] h = absurd (omega arith)
three_words (a ∷ []) h = absurd (omega arith)
three_words (a ∷ b ∷ []) h = absurd (omega arith)
three_words (a ∷ b ∷ c ∷ []) h = refl
three_words (a ∷ b ∷ c ∷ d ∷ ws) h = absurd (omega arith)

-- Three words up to the end of the bytes: they are the file of the cursor that they make.
pub three_file : {s ws : List ℕ} {next : ℕ} → length ws ≡ cursor_numbers → Row s 0 ws next → length s ≤ next
    → IsFile CursorComplete s (get_or ws 0 0 ∷ get_or ws 1 0 ∷ get_or ws 2 0 ∷ [])
three_file {s} {ws} n r z = subst (IsFile CursorComplete s) (sym (three_words ws n)) (record { complete = n; words = r.words; bytes = row_whole ws r z })
