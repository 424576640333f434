-- What was last seen, and the edition of the rules under which it was seen. The present edition is always an argument.
use Rattle.std.specs.Prelude.{ℕ, ◌≤◌, ◌≡◌, List, [], ◌∷◌, ◌++◌, ◌⊎◌, Result, Ok, Err, Option, Some, None}
use Rattle.std.specs.Borrow.{Bor}
use Rattle.basics.specs.declared.Refusal.{Refusal}
use Rattle.numbers.specs.Number.{max_word, bytes_of}
use Rattle.numbers.specs.Series.{file_of, Laid, TooSmall}
use Rattle.table.specs.Layout.{current, first_layout}
use Rattle.seen.specs.Seen.{Kept, Known, Copy}

-- The number that stands before the edition, by which our file is known. What was kept before editions were named begins with how many bytes a plan file has, and none has
-- so many. A plan file that somebody put in its place would begin so only at this very revision.
abbrev pub mark : ℕ
mark = 2718281828

-- The edition of what was kept before editions were named.
abbrev pub first_edition : ℕ
first_edition = 1

-- What is kept under an edition of the rules: the mark and the edition, as numbers, and then what was seen.
pub record Under (s : List ℕ) (edition : ℕ) (rest : List ℕ) : Type 0 where
  pub word : edition ≤ max_word
  pub whole : s ≡ bytes_of mark ++ (bytes_of edition ++ rest)

-- Writing what stands in front of the first plan, which has so many bytes, to the bytes b, which makes them b': the three numbers lie in the first bytes, and the answer is
-- how many; or there is too little room.
abbrev pub WritesFront : ℕ → ℕ → List ℕ → Result ℕ Refusal → List ℕ → Type 0
WritesFront edition size b (Ok n) b' = Laid b 0 (file_of (mark ∷ edition ∷ size ∷ [])) n b'
WritesFront edition size b (Err r) b' = TooSmall b 0 (file_of (mark ∷ edition ∷ size ∷ [])) r.cause r.at b'

-- The plan p is one of those that were seen under this edition.
pub record KnownUnder (s : List ℕ) (edition : ℕ) (p : List ℕ) : Type 0 where
  pub rest : List ℕ
  pub under : Under s edition rest
  pub known : Known rest p

-- s is what is kept beside a cursor under this edition: a copy of one plan or of two, of today's layout.
pub record CopyUnder (s : List ℕ) (edition : ℕ) : Type 0 where
  pub rest : List ℕ
  pub under : Under s edition rest
  pub copy : Copy current rest

-- s names this edition, and what comes after it has the form of what was seen, whatever stands there for a plan: another edition may have other plan files.
pub record Names (s : List ℕ) (edition : ℕ) : Type 0 where
  pub rest : List ℕ
  pub first : List ℕ
  pub other : List ℕ
  pub under : Under s edition rest
  pub kept : Kept rest first other

-- The edition that s is of: the one that it names; or the first, where s is a copy with nothing in front of it, of plans in the first layout, since there was no other
-- when editions were not named.
abbrev pub OfEdition : List ℕ → ℕ → Type 0
OfEdition s edition = Names s edition ⊎ ((edition ≡ first_edition) × Copy first_layout s)

-- Of which edition s is, if of any.
abbrev pub EditionTold : List ℕ → Option ℕ → Type 0
EditionTold s (Some e) = OfEdition s e
EditionTold s None = (e : ℕ) → OfEdition s e → ⊥

-- The edition that s names in front and what comes after it; or s names none.
abbrev pub FrontTold : List ℕ → Option (ℕ × Bor (List ℕ)) → Type 0
FrontTold s (Some f) = Under s f.0 f.1.now
FrontTold s None = (e : ℕ) (r : List ℕ) → Under s e r → ⊥

-- What was seen under this edition in s; or s is not kept under it.
abbrev pub RestTold : List ℕ → ℕ → Option (Bor (List ℕ)) → Type 0
RestTold s edition (Some rest) = Under s edition rest.now
RestTold s edition None = (r : List ℕ) → Under s edition r → ⊥

-- The plan p was kept alone under this edition.
pub record OnlyUnder (s : List ℕ) (edition : ℕ) (p : List ℕ) : Type 0 where
  pub rest : List ℕ
  pub under : Under s edition rest
  pub kept : Kept rest p []

-- The plan that was kept alone under this edition: it is all that follows; or none was kept so.
abbrev pub OnlyTold : List ℕ → ℕ → Option (Bor (List ℕ)) → Type 0
OnlyTold s edition (Some plan) = OnlyUnder s edition plan.now
OnlyTold s edition None = (p : List ℕ) → OnlyUnder s edition p → ⊥
