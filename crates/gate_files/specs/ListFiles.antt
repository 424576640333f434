-- Gate list files, the second family of files in the seven-bit habit (document 02, L7): mask, duration, mask, duration and so on to the end of the bytes, with no count in
-- front. What reading and writing one promise, by the cases of the answers. Which masks and durations a list may have is not asked here.
use Rattle.std.specs.Prelude.{ℕ, ◌*◌, ◌≤◌, ◌<◌, ◌≡◌, List, ◌⊎◌, length, Result, Ok, Err}
use Rattle.basics.specs.Refusals.{Refusals, unless, unless_at, ◌then◌}
use Rattle.basics.specs.declared.Cause.{Cause}
use Rattle.basics.specs.declared.Cause.TheVariants as cause
use Rattle.basics.specs.declared.Refusal.{Refusal}
use Rattle.numbers.specs.Series.{file_of, Laid}
use Rattle.files.specs.Reading.{IsFile, Cut}

-- The words are whole pairs.
pub record WholePairs (ws : List ℕ) : Type 0 where
  pub count : ℕ
  pub words : length ws ≡ 2 * count

-- Another number is due after the words ws of the bytes s: a pair is not whole, or bytes are left.
abbrev pub ListDue : List ℕ → List ℕ → Type 0
ListDue s ws = (WholePairs ws → ⊥) ⊎ (length (file_of ws) < length s)

-- 15: s is the file of a list that has more words than the buffer.
pub record TooLong (s : List ℕ) (room : ℕ) : Type 0 where
  pub list : List ℕ
  pub file : IsFile WholePairs s list
  pub long : room < length list

-- Why a list file is not read: 12 and 13 from left to right, where 12 at the end of the bytes is half a pair; then 15. Nothing can be left over.
abbrev pub ListUnread : List ℕ → ℕ → Cause → ℕ → Type 0
ListUnread s room k p = Cut (ListDue s) s k p ⊎ ((k ≡ cause.NoRoom) × (p ≡ 0) × TooLong s room)

-- Reading the list file s into the words b, which makes them b': the list lies in the first words, every other is what it was, and the answer is how many; or a refusal, and
-- nothing changes.
abbrev pub ReadsList : List ℕ → List ℕ → Result ℕ Refusal → List ℕ → Type 0
ReadsList s b (Ok n) b' = (ws : List ℕ) × IsFile WholePairs s ws × Laid b 0 ws n b'
ReadsList s b (Err e) b' = ListUnread s (length b) e.cause e.at × (b' ≡ b)

-- Why words are not written as a list file: 12 for half a pair, at the byte at which its duration would stand, then 15 by the exact size.
abbrev pub write_list_refusals : List ℕ → ℕ → Refusals
write_list_refusals ws room = unless_at cause.BytesEnd (length (file_of ws)) (WholePairs ws) then unless cause.NoRoom (length (file_of ws) ≤ room)

-- Writing the words ws as a list file to the bytes b, which makes them b': the file lies in the first bytes, every other is what it was, and the answer is how many; or a
-- refusal, and nothing changes.
abbrev pub WritesList : List ℕ → List ℕ → Result ℕ Refusal → List ℕ → Type 0
WritesList ws b (Ok n) b' = WholePairs ws × Laid b 0 (file_of ws) n b'
WritesList ws b (Err e) b' = (write_list_refusals ws (length b)).Fault e.cause e.at × (b' ≡ b)
