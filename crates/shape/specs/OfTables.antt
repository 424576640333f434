-- What the refusals of tables have in common, whatever their numbers.
use Rattle.std.specs.Prelude.{ℕ, ◌≤◌, ◌≡◌, ◌⊎◌}
use Rattle.basics.specs.Cause.{number_of}
use Rattle.basics.specs.declared.Cause.{Cause}
use Rattle.basics.specs.declared.Cause.TheVariants as cause
use Rattle.table.specs.Layout.{max_table_words}

-- The largest number of a refusal of a start, a slice or a move: that of a move too many periods late. (Admissions have 18 to 20 besides.)
abbrev pub max_refusal : ℕ
max_refusal = number_of cause.TooLate

-- The numbers of refusals: up to 15, and this one. (16 is of networks.)
abbrev pub RefusalNumber : ℕ → Type 0
RefusalNumber k = (k ≤ number_of cause.NoRoom) ⊎ (k ≡ max_refusal)

-- The refusals 12 to 15 concern bytes, not tables.
abbrev pub OfBytes : ℕ → Type 0
OfBytes k = (number_of cause.BytesEnd ≤ k) × (k ≤ number_of cause.NoRoom)

-- A refusal of a table has one of these numbers, but not 12 to 15. Its number and its position are small.
pub record OfTable (k : Cause) (p : ℕ) : Type 0 where
  pub number : RefusalNumber (number_of k)
  pub small : number_of k ≤ max_refusal
  pub position : p ≤ max_table_words
  pub not_of_bytes : OfBytes (number_of k) → ⊥
