-- What is proved of what was last seen and of its edition.
use Rattle.std.specs.Prelude.{ℕ, ◌≤◌, ◌≡◌, List, [], ◌∷◌, ◌++◌, length, take, Ok}
use Rattle.numbers.specs.Number.{max_word}
use Rattle.table.specs.Layout.{first_layout}
use Rattle.seen.specs.Seen.{Copy}
use Rattle.seen.specs.Editions.{WritesFront, KnownUnder, CopyUnder, OnlyUnder, OfEdition}

-- No two editions share what was kept.
pub record EditionsPartCopies : Type 0 where
  -- What is known under one edition is known under no other.
  pub one : (s : List ℕ) (d e : ℕ) (p q : List ℕ) → KnownUnder s d p → KnownUnder s e q → d ≡ e
  -- What was kept before editions were named is known under none.
  pub first : (s p : List ℕ) (e : ℕ) → Copy first_layout s → KnownUnder s e p → ⊥
  -- What was kept is of one edition at the most.
  pub told_once : (s : List ℕ) (d e : ℕ) → OfEdition s d → OfEdition s e → d ≡ e
  -- A copy under an edition is of that edition.
  pub copy_told : (s : List ℕ) (e : ℕ) → CopyUnder s e → OfEdition s e

-- What is written is known: after the front, a plan of that length and another one or nothing.
abbrev pub WrittenIsKnown : Type 0
WrittenIsKnown =
    (edition n : ℕ) (p o b b' : List ℕ) → edition ≤ max_word → length p ≤ max_word → WritesFront edition (length p) b (Ok n) b'
    → KnownUnder (take n b' ++ (p ++ o)) edition p × KnownUnder (take n b' ++ (p ++ o)) edition o

-- A plan file, of revision 9 and nothing else; the copy of it under edition 2; and the one without an edition.
abbrev pub empty_plan : List ℕ
empty_plan = 0x09 ∷ 0x00 ∷ 0x00 ∷ 0x00 ∷ 0x00 ∷ []

abbrev pub kept_under_two : List ℕ
kept_under_two = 0xE4 ∷ 0xE0 ∷ 0x96 ∷ 0x90 ∷ 0x0A ∷ 0x02 ∷ 0x05 ∷ empty_plan

abbrev pub kept_under_none : List ℕ
kept_under_none = 0x05 ∷ empty_plan

-- Three bytes and two, under edition 300.
abbrev pub two_plans : List ℕ
two_plans = 0xE4 ∷ 0xE0 ∷ 0x96 ∷ 0x90 ∷ 0x0A ∷ 0xAC ∷ 0x02 ∷ 0x03 ∷ 0x0A ∷ 0x0B ∷ 0x0C ∷ 0x0D ∷ 0x0E ∷ []

-- A length of 6 before 5 bytes.
abbrev pub too_long : List ℕ
too_long = 0xE4 ∷ 0xE0 ∷ 0x96 ∷ 0x90 ∷ 0x0A ∷ 0x02 ∷ 0x06 ∷ empty_plan

-- A plan file with a byte after it, in a copy without an edition.
abbrev pub left_over : List ℕ
left_over = 0x05 ∷ 0x09 ∷ 0x00 ∷ 0x00 ∷ 0x00 ∷ 0x00 ∷ 0x00 ∷ []

-- A plan file of the first layout with one leg, and one of today's, each in a copy without an edition.
abbrev pub leg_under_none : List ℕ
leg_under_none = 0x08 ∷ 0x00 ∷ 0x00 ∷ 0x00 ∷ 0x01 ∷ 0x00 ∷ 0x07 ∷ 0x08 ∷ 0x09 ∷ []

abbrev pub leg_of_today : List ℕ
leg_of_today = 0x09 ∷ 0x00 ∷ 0x00 ∷ 0x00 ∷ 0x01 ∷ 0x00 ∷ 0x07 ∷ 0x08 ∷ 0x09 ∷ 0x00 ∷ []

-- Copies at numbers.
pub record CopiesAtNumbers : Type 0 where
  pub copied : CopyUnder kept_under_two 2
  pub not_three : CopyUnder kept_under_two 3 → ⊥
  pub seen : KnownUnder kept_under_two 2 empty_plan
  pub not_seen_three : KnownUnder kept_under_two 3 empty_plan → ⊥
  -- Another plan is not known, nor are both together.
  pub another : KnownUnder kept_under_two 2 (0x08 ∷ 0x00 ∷ 0x00 ∷ 0x00 ∷ 0x00 ∷ []) → ⊥
  pub both : KnownUnder two_plans 300 (0x0A ∷ 0x0B ∷ 0x0C ∷ 0x0D ∷ 0x0E ∷ []) → ⊥
  -- One plan was kept alone, under its edition and no other; of two neither was.
  pub only : OnlyUnder kept_under_two 2 empty_plan
  pub not_only_three : (p : List ℕ) → OnlyUnder kept_under_two 3 p → ⊥
  pub not_only : (p : List ℕ) → OnlyUnder two_plans 300 p → ⊥
  pub named : OfEdition kept_under_two 2
  pub first : KnownUnder two_plans 300 (0x0A ∷ 0x0B ∷ 0x0C ∷ [])
  pub other : KnownUnder two_plans 300 (0x0D ∷ 0x0E ∷ [])
  -- What is no plan file is of the edition that it names, and no copy.
  pub form_alone : OfEdition two_plans 300
  pub no_plan_files : CopyUnder two_plans 300 → ⊥
  -- Without an edition in front: of the first, and known under none.
  pub unnamed : OfEdition kept_under_none 1
  -- Without one its plans are of the first layout.
  pub unnamed_leg : OfEdition leg_under_none 1
  pub not_of_today : (e : ℕ) → OfEdition leg_of_today e → ⊥
  pub unknown : (e : ℕ) (p : List ℕ) → KnownUnder kept_under_none e p → ⊥
  -- Of no edition: a length that is too large, what is no plan file, and a plan file with a byte after it.
  pub too_long_lem : (e : ℕ) → OfEdition too_long e → ⊥
  pub no_file : (e : ℕ) → OfEdition (0x03 ∷ 0x0A ∷ 0x0B ∷ 0x0C ∷ []) e → ⊥
  pub left_over_lem : (e : ℕ) → OfEdition left_over e → ⊥
