-- Plan files: what reading and writing one promise, by the cases of the answers (document 01, "Files" and "Numbered refusals").
use Rattle.std.specs.Prelude.{ℕ, ◌≤◌, ◌<◌, ◌≡◌, List, ◌⊎◌, length, take, Result, Ok, Err}
use Rattle.basics.specs.Refusals.{Refusals, unless, ◌then◌}
use Rattle.basics.specs.declared.Cause.{Cause}
use Rattle.basics.specs.declared.Cause.TheVariants as cause
use Rattle.basics.specs.declared.Refusal.{Refusal}
use Rattle.numbers.specs.Series.{file_of, Row, Laid}
use Rattle.table.specs.Layout.{current, head_words, words_in, LimitsIn, SizedIn, Sized}
use Rattle.table.specs.declared.Edition.{Edition}
use Rattle.table.specs.Size.{size_refusals}
use Rattle.files.specs.Reading.{IsFile, Cut, Over}

-- Another number is due: the header is not whole; or it is within its limits, and the table is not whole.
abbrev pub PlanDueIn : Edition → List ℕ → Type 0
PlanDueIn e ws = (length ws < head_words) ⊎ (LimitsIn e ws × (length ws < words_in e ws))

-- 2: the five numbers of the header stand in front, and pass a limit.
pub record HeaderAboveIn (e : Edition) (s : List ℕ) : Type 0 where
  pub head : List ℕ
  pub next : ℕ
  pub row : Row s 0 head next
  pub five : length head ≡ head_words
  pub above : LimitsIn e head → ⊥

-- What is wrong with a plan file: 12 and 13 from left to right, 2 after the fifth number, then 14.
abbrev pub PlanFaultIn : Edition → List ℕ → Cause → ℕ → Type 0
PlanFaultIn e s k p = Cut (PlanDueIn e) s k p ⊎ (((k ≡ cause.AboveLimit) × (p ≡ 0) × HeaderAboveIn e s) ⊎ ((k ≡ cause.LeftOver) × Over (SizedIn e) s p))

-- 15: s is the file of a table, and what is given for it has more words than the buffer.
pub record TooLongIn (e : Edition) (given : List ℕ → List ℕ) (s : List ℕ) (room : ℕ) : Type 0 where
  pub table : List ℕ
  pub file : IsFile (SizedIn e) s table
  pub long : room < length (given table)

-- Why a plan file is not read: what is wrong with it, then 15.
abbrev pub PlanUnreadIn : Edition → (List ℕ → List ℕ) → List ℕ → ℕ → Cause → ℕ → Type 0
PlanUnreadIn e given s room k p = PlanFaultIn e s k p ⊎ ((k ≡ cause.NoRoom) × (p ≡ 0) × TooLongIn e given s room)

-- Reading the plan file s of an edition into the words b, which makes them b': what is given for its table lies in the first words, every other is
-- what it was, and the answer is how many; or a refusal, and nothing changes.
abbrev pub ReadsPlanIn : Edition → (List ℕ → List ℕ) → List ℕ → List ℕ → Result ℕ Refusal → List ℕ → Type 0
ReadsPlanIn e given s b (Ok n) b' = (t : List ℕ) × IsFile (SizedIn e) s t × Laid b 0 (given t) n b'
ReadsPlanIn e given s b (Err r) b' = PlanUnreadIn e given s (length b) r.cause r.at × (b' ≡ b)

-- In this edition a table is given as it stands in its file.
abbrev pub as_it_stands : List ℕ → List ℕ
as_it_stands t = t

abbrev pub PlanDue : List ℕ → Type 0
PlanDue ws = PlanDueIn current ws

abbrev pub PlanFault : List ℕ → Cause → ℕ → Type 0
PlanFault s k p = PlanFaultIn current s k p

abbrev pub PlanUnread : List ℕ → ℕ → Cause → ℕ → Type 0
PlanUnread s room k p = PlanUnreadIn current as_it_stands s room k p

abbrev pub ReadsPlan : List ℕ → List ℕ → Result ℕ Refusal → List ℕ → Type 0
ReadsPlan s b r b' = ReadsPlanIn current as_it_stands s b r b'

-- The first n of the words w are the table whose file s is.
pub record InFront (s : List ℕ) (n : ℕ) (w : List ℕ) : Type 0 where
  pub table : List ℕ
  pub file : IsFile Sized s table
  pub is : take n w ≡ table
  pub inside : n ≤ length w

-- Reading the plan file s in one pass into words that have room for any table, which makes them w: the table lies in the first words, and the answer is how
-- many; or what is wrong with the file. Nothing is said of the words after the table, and after a refusal of none.
abbrev pub TakesPlan : List ℕ → Result ℕ Refusal → List ℕ → Type 0
TakesPlan s (Ok n) w = InFront s n w
TakesPlan s (Err r) w = PlanFault s r.cause r.at

-- Why a table is not written: 1, 2, 3, then 15 by the exact size.
abbrev pub write_refusals : List ℕ → ℕ → Refusals
write_refusals t room =
    size_refusals t
    then unless cause.NoRoom (length (file_of t) ≤ room)

-- Writing the table t to the bytes b, which makes them b': its file lies in the first bytes, every other is what it was, and the answer is
-- how many; or a refusal, and nothing changes.
abbrev pub WritesPlan : List ℕ → List ℕ → Result ℕ Refusal → List ℕ → Type 0
WritesPlan t b (Ok n) b' = Sized t × Laid b 0 (file_of t) n b'
WritesPlan t b (Err r) b' = (write_refusals t (length b)).Fault r.cause r.at × (b' ≡ b)
