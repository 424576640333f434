-- A plan file taken into the reader's own words: the header lies in the first five, the records after it, and together they are the table.
-- Assumes nothing.
use Prim.Native.Nat.{ℕ, ◌-◌, ◌≤◌, ◌<◌}
use mathlib.Core.Path.{◌≡◌, ◌∙◌, sym, ap, subst}
use mathlib.Core.List.{List, ◌++◌, append_assoc}
use mathlib.Core.Logic.{inl}
use lib.ListN.{length, take, drop, length-append, length-drop}
use lib.Seq.{length-take-le, take_at}
use native.Mathlib.Omega.{arith}
use Rattle.numbers.specs.Series.{Row}
use Rattle.numbers.specs.Steps.{Numbers, Stopped}
use Rattle.table.specs.Layout.{current, head_words, max_table_words}
use Rattle.basics.specs.declared.Cause.{Cause}
use Rattle.files.specs.Reading.{Cut, Over}
use Rattle.files.specs.Plan.{PlanDue, InFront}
use Rattle.table.specs.Layout.{Sized}
use Rattle.files.proofs.Looking.{Header, table_over, table_cut, table_is, table_size}

-- Words that have room for any table, with the reader's header in front.
module _ (w : List ℕ) (room : max_table_words ≤ length w) where
  pub five_words : length (take head_words w) ≡ head_words
  five_words = length-take-le head_words w (omega arith)

  -- The header was taken: it lies in front, and the words are as many as they were.
  pub header_taken : {s h : List ℕ} {next : ℕ} → (length h ≡ length (take head_words w)) × Row s 0 h next
      → (max_table_words ≤ length (h ++ drop head_words w)) × Row s 0 (take head_words (h ++ drop head_words w)) next
  header_taken {s} {h} {next} (n, r) =
      let five : length h ≡ head_words = n ∙ five_words in (
        omega (arith, length-append h (drop head_words w), length-drop head_words w, five),
        subst (λ (l : List ℕ). Row s 0 l next) (sym (take_at h (drop head_words w) head_words five)) r,
      )

  pub header_cut : {s : List ℕ} {k : Cause} {p : ℕ} → Stopped s 0 (length (take head_words w)) k p → Cut PlanDue s k p
  header_cut x = record { ws = x.ws; row = x.row; due = inl (omega (arith, x.short, five_words)); no_number = x.no_number }

-- After a header in the first words that is within its limits.
module _ (w : List ℕ) (room : max_table_words ≤ length w) {s : List ℕ} {next size : ℕ} (d : Header current s (take head_words w) next size) where
  pub size_fits : size ≤ length w
  size_fits = let l = d.within in omega (arith, room, l.1, l.0.links, l.0.streams, l.0.legs)

  abbrev rest : List ℕ
  rest = take (size - head_words) (drop head_words w)

  rest_length : length rest ≡ size - head_words
  rest_length = length-take-le (size - head_words) (drop head_words w) (omega (arith, length-drop head_words w, size_fits))

  pub records_cut : {k : Cause} {p : ℕ} → Stopped s next (length rest) k p → Cut PlanDue s k p
  records_cut {k} {p} x = table_cut d (subst (λ (n : ℕ). Stopped s next n k p) rest_length x)

  module _ {r : List ℕ} {p : ℕ} (taken : (length r ≡ length rest) × Row s next r p) where
    abbrev records : Numbers s next (size - head_words) p
    records = record { ws = r; count = taken.0 ∙ rest_length; row = taken.1 }

    pub records_over : p < length s → Over Sized s p
    records_over z = table_over d records z

    pub records_whole : length s ≤ p → InFront s size (take head_words w ++ (r ++ drop (size - head_words) (drop head_words w)))
    records_whole z =
        let tail = drop (size - head_words) (drop head_words w) in
        let joined : take head_words w ++ (r ++ tail) ≡ (take head_words w ++ r) ++ tail = sym (append_assoc (take head_words w) r tail) in
        let long = table_size d records in
        record {
          table = take head_words w ++ r;
          file = table_is d records z;
          is = ap (take size) joined ∙ take_at (take head_words w ++ r) tail size (sym long);
          inside = omega (arith, ap length joined, length-append (take head_words w ++ r) tail, long);
        }
