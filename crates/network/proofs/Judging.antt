-- The refusals of a network have one answer. Assumes nothing.
use mathlib.Core.List.{List}
use Prim.Native.Nat.{ℕ}
use lib.IntN.{ℤ}
use Rattle.basics.specs.Refusals.{OneFault}
use Rattle.basics.specs.declared.Cause.TheVariants as cause
use Rattle.basics.proofs.Refusals.{unless_one, lowest_one, then_one, called_one}
use Rattle.network.specs.Constraints.{constraint_count, InRange, SizeAllowed, network_refusals}

pub network_one : (n : ℕ) (ws : List ℤ) → OneFault (network_refusals n ws)
network_one n ws =
    called_one (then_one (unless_one cause.TooLarge (SizeAllowed n ws)) (lowest_one cause.OutOfRange (InRange n ws) (constraint_count ws))) (λ r. (r.size, r.each))
