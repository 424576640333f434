-- What a rate with a name is.
use Rattle.std.specs.Prelude.{ℕ, ◌*◌, ◌≡◌}
use Rattle.units.specs.declared.Named.{Named}
use Rattle.units.specs.declared.Named.TheVariants as named

-- How many bits each sends in a second.
abbrev pub bits_of : Named → ℕ
bits_of named.Ten = 10000000
bits_of named.Hundred = 100000000
bits_of named.Thousand = 1000000000

-- An octet takes n ns: in that time eight bits are sent. There are 1,000,000,000 ns in a second.
abbrev pub OctetTime : Named → ℕ → Type 0
OctetTime rate n = n * bits_of rate ≡ 8 * 1000000000
