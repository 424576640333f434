-- What is proved of gate list files.
use Rattle.std.specs.Prelude.{ℕ, ◌≤◌, ◌≡◌, List, [], ◌∷◌, ◌⊎◌, length, take, Result, Ok}
use Rattle.basics.specs.Cause.{refused}
use Rattle.basics.specs.declared.Cause.{Cause}
use Rattle.basics.specs.declared.Cause.TheVariants as cause
use Rattle.basics.specs.declared.Refusal.{Refusal}
use Rattle.numbers.specs.Series.{AllWords, overlaid}
use Rattle.gate_files.specs.ListFiles.{ReadsList, WritesList}

-- Each call has one answer and leaves one memory.
abbrev pub ReadListOneAnswer : Type 0
ReadListOneAnswer = (s b b' b'' : List ℕ) (r r' : Result ℕ Refusal) → ReadsList s b r b' → ReadsList s b r' b'' → (r ≡ r') × (b' ≡ b'')

abbrev pub WriteListOneAnswer : Type 0
WriteListOneAnswer = (ws b b' b'' : List ℕ) (r r' : Result ℕ Refusal) → WritesList ws b r b' → WritesList ws b r' b'' → (r ≡ r') × (b' ≡ b'')

-- For every list file that the reader takes, writing the words that it gave makes the same file again, where there is room for its bytes.
abbrev pub ListFilesComeBack : Type 0
ListFilesComeBack =
    (s words words' bytes bytes' : List ℕ) (n : ℕ) (r : Result ℕ Refusal)
    → ReadsList s words (Ok n) words' → WritesList (take n words') bytes r bytes'
    → length s ≤ length bytes → (r ≡ Ok (length s)) × (bytes' ≡ overlaid bytes 0 s)

-- For all words that the writer takes, reading the file that it made gives the same words again, where there is room for them.
abbrev pub ListsComeBack : Type 0
ListsComeBack =
    (ws bytes bytes' words words' : List ℕ) (n : ℕ) (r : Result ℕ Refusal) → AllWords ws
    → WritesList ws bytes (Ok n) bytes' → ReadsList (take n bytes') words r words'
    → length ws ≤ length words → (r ≡ Ok (length ws)) × (words' ≡ overlaid words 0 ws)

-- Which refusals there are: 12, 13 and 15 to a reader, 12 and 15 to a writer. So 14 is none of them.
pub record ListFileRefusalsAreThese : Type 0 where
  pub read : (s b b' : List ℕ) (k : Cause) (p : ℕ) → ReadsList s b (refused k p) b' → (k ≡ cause.BytesEnd) ⊎ ((k ≡ cause.UnfitNumber) ⊎ (k ≡ cause.NoRoom))
  pub written : (ws b b' : List ℕ) (k : Cause) (p : ℕ) → WritesList ws b (refused k p) b' → (k ≡ cause.BytesEnd) ⊎ (k ≡ cause.NoRoom)

-- At numbers: 128 for 1,344 ns is 80 01 C0 0A. Without its last byte the duration is cut short, at 2. Half a pair is 12 at the end, and 80 00 is no
-- shortest form; both come before 15. No bytes are a list without pairs. A writer tells half a pair at the byte at which its duration would stand.
pub record ListFilesAtNumbers : Type 0 where
  pub one_pair : ReadsList (0x80 ∷ 0x01 ∷ 0xC0 ∷ 0x0A ∷ []) (5 ∷ 6 ∷ 7 ∷ []) (Ok 2) (128 ∷ 1344 ∷ 7 ∷ [])
  pub written_so : WritesList (128 ∷ 1344 ∷ []) (1 ∷ 2 ∷ 3 ∷ 4 ∷ 5 ∷ []) (Ok 4) (0x80 ∷ 0x01 ∷ 0xC0 ∷ 0x0A ∷ 5 ∷ [])
  pub cut_short : ReadsList (0x80 ∷ 0x01 ∷ 0xC0 ∷ []) (5 ∷ 6 ∷ []) (refused cause.BytesEnd 2) (5 ∷ 6 ∷ [])
  pub half_a_pair : ReadsList (0x7F ∷ 0x05 ∷ 0x7F ∷ []) [] (refused cause.BytesEnd 3) []
  pub not_shortest : ReadsList (0x7F ∷ 0x05 ∷ 0x80 ∷ 0x00 ∷ []) [] (refused cause.UnfitNumber 2) []
  pub small_room : ReadsList (0x7F ∷ 0x05 ∷ []) (5 ∷ []) (refused cause.NoRoom 0) (5 ∷ [])
  pub no_pairs : ReadsList [] [] (Ok 0) []
  pub half_not_written : WritesList (128 ∷ 1344 ∷ 127 ∷ []) [] (refused cause.BytesEnd 5) []
  pub no_room_lem : WritesList (128 ∷ 1344 ∷ []) (1 ∷ 2 ∷ 3 ∷ []) (refused cause.NoRoom 0) (1 ∷ 2 ∷ 3 ∷ [])
