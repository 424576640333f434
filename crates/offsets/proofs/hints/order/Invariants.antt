-- `offsets::hints::order` is safe: at most one hint for each condition. Assumes nothing.
use Rattle.std.proofs.Common.{◌≤◌, ◌≡◌, length}
use Rattle.offsets.proofs.hints.order.Given as goal

abbrev pub invariant-loop-i : goal.invariant-loop-i
invariant-loop-i l = (l.n ≤ l.i) × (length l.order ≡ length l.initial.order)
