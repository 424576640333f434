-- Signed numbers of 64 bits.
use Rattle.std.specs.Prelude.{ℕ}

-- The largest number that 64 bits with a sign hold. The smallest is one further from 0.
abbrev pub max_signed : ℕ
max_signed = 9223372036854775807
