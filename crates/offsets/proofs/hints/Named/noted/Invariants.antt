-- `offsets::hints::Named::noted` is safe: swaps keep the length. Assumes nothing.
use Rattle.std.proofs.Common.{◌≡◌, length}
use Rattle.offsets.proofs.hints.Named.noted.Given as goal

abbrev pub invariant-loop-i : goal.invariant-loop-i
invariant-loop-i l = length l.order ≡ length l.fn.order
