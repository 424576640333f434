-- The refusals of files at numbers: 12, 13, 2, 14 and 15 of reading, 1, 2, 3 and 15 of writing, and their order.
use Rattle.std.specs.Prelude.{ℕ, List, [], ◌∷◌, Err}
use Rattle.basics.specs.Cause.{refused}
use Rattle.basics.specs.declared.Cause.{Cause}
use Rattle.basics.specs.declared.Cause.TheVariants as cause
use Rattle.files.specs.Plan.{ReadsPlan, WritesPlan}
use Rattle.files.specs.Cursors.{ReadsCursor, WritesCursor}
use Rattle.files.specs.declared.Cursor.{Cursor}

-- The plan file s is refused with k at p, whatever buffer is lent, and the buffer stays.
abbrev pub FileRefused : List ℕ → Cause → ℕ → Type 0
FileRefused s k p = (b : List ℕ) → ReadsPlan s b (refused k p) b

-- One link more than there may be.
abbrev pub links_above : ℕ
links_above = 257

pub record PlanReadRefusalsAtNumbers : Type 0 where
  -- 12: the fourth number of the header is missing, the third is cut short, the propagation of link 0 is missing.
  pub missing : FileRefused (0x00 ∷ 0x00 ∷ 0x00 ∷ []) cause.BytesEnd 3
  pub cut_short : FileRefused (0x00 ∷ 0x00 ∷ 0x80 ∷ []) cause.BytesEnd 2
  pub link_cut : FileRefused (0x00 ∷ 0x01 ∷ 0x00 ∷ 0x00 ∷ 0x00 ∷ 0x01 ∷ 0x02 ∷ 0x08 ∷ []) cause.BytesEnd 8
  -- 13 further left than 12; and in the propagation of link 0.
  pub second_unfit : FileRefused (0x00 ∷ 0x80 ∷ 0x00 ∷ 0x00 ∷ []) cause.UnfitNumber 1
  pub link_unfit : FileRefused (0x00 ∷ 0x01 ∷ 0x00 ∷ 0x00 ∷ 0x00 ∷ 0x01 ∷ 0x02 ∷ 0x08 ∷ 0x80 ∷ 0x00 ∷ []) cause.UnfitNumber 8
  -- 257 links: 2 as soon as five numbers stand, and not before, whatever follows them.
  pub above : FileRefused (0x00 ∷ 0x81 ∷ 0x02 ∷ 0x00 ∷ 0x00 ∷ 0x00 ∷ 0x80 ∷ 0x00 ∷ []) cause.AboveLimit 0
  pub above_missing : FileRefused (0x00 ∷ 0x81 ∷ 0x02 ∷ 0x00 ∷ 0x00 ∷ []) cause.BytesEnd 5
  pub above_unfit : FileRefused (0x00 ∷ 0x81 ∷ 0x02 ∷ 0x00 ∷ 0x00 ∷ 0x80 ∷ 0x00 ∷ []) cause.UnfitNumber 5
  -- 14: what follows the table is not read as a number.
  pub left_over_lem : FileRefused (0x00 ∷ 0x00 ∷ 0x00 ∷ 0x00 ∷ 0x00 ∷ 0x00 ∷ []) cause.LeftOver 5
  pub left_over_unfit : FileRefused (0x00 ∷ 0x00 ∷ 0x00 ∷ 0x00 ∷ 0x00 ∷ 0x80 ∷ 0x00 ∷ []) cause.LeftOver 5
  -- 15: five words, and four lent.
  pub no_room_lem : ReadsPlan (0x00 ∷ 0x00 ∷ 0x00 ∷ 0x00 ∷ 0x00 ∷ []) (1 ∷ 2 ∷ 3 ∷ 4 ∷ []) (refused cause.NoRoom 0) (1 ∷ 2 ∷ 3 ∷ 4 ∷ [])

-- Nothing is lent but in the last, where one byte is missing: 1, 2 and 3 before 15.
pub record PlanWrittenRefusalsAtNumbers : Type 0 where
  pub four_words_is : WritesPlan (0 ∷ 0 ∷ 0 ∷ 0 ∷ []) [] (refused cause.NoHeader 0) []
  pub above : WritesPlan (0 ∷ links_above ∷ 0 ∷ 0 ∷ 0 ∷ []) [] (refused cause.AboveLimit 0) []
  pub word_more_is : WritesPlan (0 ∷ 0 ∷ 0 ∷ 0 ∷ 0 ∷ 0 ∷ []) [] (refused cause.WrongLength 0) []
  pub no_room_lem : WritesPlan (300 ∷ 0 ∷ 0 ∷ 0 ∷ 0 ∷ []) (1 ∷ 2 ∷ 3 ∷ 4 ∷ 5 ∷ []) (refused cause.NoRoom 0) (1 ∷ 2 ∷ 3 ∷ 4 ∷ 5 ∷ [])

-- A cursor whose file has four bytes.
abbrev pub four_bytes : Cursor
four_bytes = record { revision = 300; leg = 1; place = 2 }

pub record SavedCursorRefusalsAtNumbers : Type 0 where
  pub missing : ReadsCursor (0x07 ∷ 0x01 ∷ []) (refused cause.BytesEnd 2)
  pub cut_short : ReadsCursor (0x07 ∷ 0x80 ∷ []) (refused cause.BytesEnd 1)
  pub unfit : ReadsCursor (0x07 ∷ 0x80 ∷ 0x00 ∷ []) (refused cause.UnfitNumber 1)
  pub left_over_lem : ReadsCursor (0x07 ∷ 0x01 ∷ 0x02 ∷ 0x80 ∷ 0x00 ∷ []) (refused cause.LeftOver 3)
  pub no_room_lem : WritesCursor four_bytes (7 ∷ 8 ∷ 9 ∷ []) (Err (record { refusal = record { cause = cause.NoRoom; at = 0 }; cursor = four_bytes })) (7 ∷ 8 ∷ 9 ∷ [])

pub record FileRefusalsAtNumbers : Type 0 where
  pub plans_read : PlanReadRefusalsAtNumbers
  pub plans_written : PlanWrittenRefusalsAtNumbers
  pub cursors : SavedCursorRefusalsAtNumbers
