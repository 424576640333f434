-- What only inner functions of this crate tell.
use Rattle.std.specs.Prelude.{ℕ, ◌*◌, ◌≤◌, ◌^◌, ◌≡◌}

-- The words of so many records: their width is a byte and their count a word, so that a sum of parts is never too large.
pub record PartWords (width records words : ℕ) : Type 0 where
  pub is : words ≡ width * records
  pub small : words ≤ 2 ^ 40
