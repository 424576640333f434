-- What the inner functions of this crate tell.
use Rattle.std.specs.Prelude.{ℕ, ◌*◌, ◌≤◌, ◌≡◌, List, length}
use Rattle.numbers.specs.Series.{Row, overlaid}
use Rattle.table.specs.Layout.{link_count, stream_count, leg_count, table_words, SizedIn}
use Rattle.table.specs.declared.Edition.{Edition}
use Rattle.files.specs.Reading.{IsFile}
use Rattle.editions.specs.Converted.{new_word, wider, converted}

-- The n numbers that stand in s from at up to but without next were taken into the buffer b from position to on, which made it b'.
pub record FilledOn (s : List ℕ) (at n : ℕ) (b : List ℕ) (to next : ℕ) (b' : List ℕ) : Type 0 where
  pub ws : List ℕ
  pub count : length ws ≡ n
  pub row : Row s at ws next
  pub after : b' ≡ overlaid b to ws

-- The same of n records of w numbers, each made g words long.
pub record FilledWider (s : List ℕ) (at n w g : ℕ) (b : List ℕ) (to next : ℕ) (b' : List ℕ) : Type 0 where
  pub ws : List ℕ
  pub count : length ws ≡ w * n
  pub row : Row s at ws next
  pub after : b' ≡ overlaid b to (wider w g new_word n ws)

-- s is the file of a table of the layout.
abbrev pub OldFile : Edition → List ℕ → Type 0
OldFile e s = (u : List ℕ) × IsFile (SizedIn e) s u

-- The same with the table's counts, and room for what it becomes.
pub record Counted (e : Edition) (s : List ℕ) (links streams legs : ℕ) (b : List ℕ) : Type 0 where
  pub table : List ℕ
  pub file : IsFile (SizedIn e) s table
  pub links_are : links ≡ link_count table
  pub streams_are : streams ≡ stream_count table
  pub legs_are : legs ≡ leg_count table
  pub fits : table_words table ≤ length b

-- What the table of the file becomes was laid over b.
pub record Converts (e : Edition) (s b b' : List ℕ) : Type 0 where
  pub table : List ℕ
  pub file : IsFile (SizedIn e) s table
  pub after : b' ≡ overlaid b 0 (converted e table)
