-- `units::after_point` meets its contract: a power of ten is above 0. Assumes nothing.
use Rattle.std.proofs.Common.{arith}
use Rattle.std.proofs.Math.Nat.{one-le-pow}
use Rattle.units.proofs.after_point.Goals as goal

pub scaled-requires : goal.scaled-requires
scaled-requires c = omega (arith, c.pow.ensures, one-le-pow)
