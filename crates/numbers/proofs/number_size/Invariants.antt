-- `numbers::number_size` meets its contract: a group is counted for each that is taken off, and one for the last. Assumes nothing.
use Rattle.std.proofs.Common.{ℕ, ◌+◌, ◌≡◌, List, length}
use Rattle.numbers.proofs.Rest.{Rest}
use Rattle.numbers.proofs.number_size.Given as goal

abbrev pub invariant-loop-rest : goal.invariant-loop-rest
invariant-loop-rest l = (done : List ℕ) × (l.size ≡ length done + 1) × Rest l.x done l.rest

abbrev pub decreases-loop-rest : goal.decreases-loop-rest
decreases-loop-rest l = l.rest
