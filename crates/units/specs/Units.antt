-- How long the units of time are.
use Rattle.std.specs.Prelude.{ℕ}
use Rattle.units.specs.declared.Unit.{Unit}
use Rattle.units.specs.declared.Unit.TheVariants as unit

-- How many ns a unit is.
abbrev pub ns_of : Unit → ℕ
ns_of unit.Nano = 1
ns_of unit.Micro = 1000
ns_of unit.Milli = 1000000
ns_of unit.Second = 1000000000
