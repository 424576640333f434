-- What is proved of plan files and saved cursors.
use Rattle.std.specs.Prelude.{ℕ, ◌*◌, ◌≤◌, ◌≡◌, List, [], ◌∷◌, length, take, Result, Ok}
use Rattle.basics.specs.declared.Refusal.{Refusal}
use Rattle.numbers.specs.Number.{max_number_bytes}
use Rattle.numbers.specs.Series.{AllWords, file_of, overlaid}
use Rattle.table.specs.Layout.{max_table_words, Sized}
use Rattle.table.specs.PlanA.{plan_a}
use Rattle.table.specs.declared.Edition.{Edition}
use Rattle.files.specs.Plan.{ReadsPlanIn, ReadsPlan, TakesPlan, WritesPlan}
use Rattle.files.specs.Cursors.{cursor_numbers, cursor_words, cursor_file, ReadsCursor, WritesCursor}
use Rattle.files.specs.declared.Cursor.{Cursor}
use Rattle.files.specs.declared.Returned.{Returned}

-- Each call has one answer, and those that are lent memory to write leave one memory. A plan file of any edition has one.
abbrev pub ReadPlanInOneAnswer : Type 0
ReadPlanInOneAnswer =
    (e : Edition) (given : List ℕ → List ℕ) (s b b' b'' : List ℕ) (r r' : Result ℕ Refusal)
    → ReadsPlanIn e given s b r b' → ReadsPlanIn e given s b r' b'' → (r ≡ r') × (b' ≡ b'')

abbrev pub ReadPlanOneAnswer : Type 0
ReadPlanOneAnswer =
    (s b b' b'' : List ℕ) (r r' : Result ℕ Refusal) → ReadsPlan s b r b' → ReadsPlan s b r' b'' → (r ≡ r') × (b' ≡ b'')

-- So does a plan file that is read in one pass: one answer, and one table in front.
abbrev pub TakePlanOneAnswer : Type 0
TakePlanOneAnswer =
    (s w w' : List ℕ) (r r' : Result ℕ Refusal) → TakesPlan s r w → TakesPlan s r' w' → (r ≡ r') × ((n : ℕ) → r ≡ Ok n → take n w ≡ take n w')

-- Where lent words have room for any table, what is read into them is also what one pass promises. So with `TakePlanOneAnswer` both readers tell the same.
abbrev pub ReadingTakes : Type 0
ReadingTakes = (s b b' : List ℕ) (r : Result ℕ Refusal) → max_table_words ≤ length b → ReadsPlan s b r b' → TakesPlan s r b'

abbrev pub WritePlanOneAnswer : Type 0
WritePlanOneAnswer =
    (t b b' b'' : List ℕ) (r r' : Result ℕ Refusal) → WritesPlan t b r b' → WritesPlan t b r' b'' → (r ≡ r') × (b' ≡ b'')

abbrev pub ReadCursorOneAnswer : Type 0
ReadCursorOneAnswer = (s : List ℕ) (r r' : Result Cursor Refusal) → ReadsCursor s r → ReadsCursor s r' → r ≡ r'

abbrev pub WriteCursorOneAnswer : Type 0
WriteCursorOneAnswer =
    (c : Cursor) (b b' b'' : List ℕ) (r r' : Result ℕ Returned)
    → WritesCursor c b r b' → WritesCursor c b r' b'' → (r ≡ r') × (b' ≡ b'')

-- For every file that the reader takes, writing the table that it gave makes the same file again, where there is room for its bytes.
abbrev pub FilesComeBack : Type 0
FilesComeBack =
    (s words words' bytes bytes' : List ℕ) (n : ℕ) (r : Result ℕ Refusal)
    → ReadsPlan s words (Ok n) words' → WritesPlan (take n words') bytes r bytes'
    → length s ≤ length bytes → (r ≡ Ok (length s)) × (bytes' ≡ overlaid bytes 0 s)

-- For every table of words that the writer takes, reading the file that it wrote gives the same table again, where there is room for its words.
abbrev pub TablesComeBack : Type 0
TablesComeBack =
    (t bytes bytes' words words' : List ℕ) (n : ℕ) (r : Result ℕ Refusal)
    → AllWords t → WritesPlan t bytes (Ok n) bytes' → ReadsPlan (take n bytes') words r words'
    → length t ≤ length words → (r ≡ Ok (length t)) × (words' ≡ overlaid words 0 t)

-- A cursor that was written is read back, and a saved cursor that was read is written back.
abbrev pub CursorsComeBack : Type 0
CursorsComeBack =
    (c : Cursor) (bytes bytes' : List ℕ) (n : ℕ) (r : Result Cursor Refusal)
    → AllWords (cursor_words c) → WritesCursor c bytes (Ok n) bytes' → ReadsCursor (take n bytes') r → r ≡ Ok c

abbrev pub SavedCursorsComeBack : Type 0
SavedCursorsComeBack =
    (s bytes bytes' : List ℕ) (c : Cursor) (r : Result ℕ Returned)
    → ReadsCursor s (Ok c) → WritesCursor c bytes r bytes'
    → length s ≤ length bytes → (r ≡ Ok (length s)) × (bytes' ≡ overlaid bytes 0 s)

-- No file has more than 58,905 bytes, and no saved cursor more than 15.
abbrev pub max_file_bytes : ℕ
max_file_bytes = max_number_bytes * max_table_words

abbrev pub max_cursor_bytes : ℕ
max_cursor_bytes = max_number_bytes * cursor_numbers

abbrev pub FileBytesAtMost : Type 0
FileBytesAtMost = (max_file_bytes ≡ 58905) × ((t : List ℕ) → Sized t → length (file_of t) ≤ max_file_bytes)

abbrev pub CursorBytesAtMost : Type 0
CursorBytesAtMost = (max_cursor_bytes ≡ 15) × ((c : Cursor) → length (cursor_file c) ≤ max_cursor_bytes)

-- Plan A's file, 44 bytes.
abbrev pub plan_a_file : List ℕ
plan_a_file =
    0x00 ∷ 0x02 ∷ 0x02 ∷ 0x03 ∷ 0x64 ∷
    0x01 ∷ 0x02 ∷ 0x08 ∷ 0xF4 ∷ 0x03 ∷
    0x02 ∷ 0x03 ∷ 0x08 ∷ 0xF4 ∷ 0x03 ∷
    0xA0 ∷ 0x8D ∷ 0x06 ∷ 0xB0 ∷ 0x12 ∷ 0x40 ∷ 0x00 ∷ 0x02 ∷
    0xF0 ∷ 0x93 ∷ 0x09 ∷ 0xD0 ∷ 0x0F ∷ 0x40 ∷ 0x02 ∷ 0x01 ∷
    0x00 ∷ 0x00 ∷ 0x00 ∷ 0x00 ∷
    0x00 ∷ 0x01 ∷ 0x98 ∷ 0x09 ∷ 0x00 ∷
    0x01 ∷ 0x00 ∷ 0x00 ∷ 0x00 ∷ []

abbrev pub PlanAFile : Type 0
PlanAFile = file_of plan_a ≡ plan_a_file
