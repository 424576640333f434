-- `numbers::put_number` meets its contract: after each group the buffer holds the groups written so far. Assumes nothing.
use Rattle.std.proofs.Common.{ℕ, ◌+◌, ◌≡◌, List, length}
use Rattle.numbers.specs.Series.{overlaid}
use Rattle.numbers.proofs.Rest.{Rest}
use Rattle.numbers.proofs.put_number.Given as goal

abbrev pub invariant-loop-rest : goal.invariant-loop-rest
invariant-loop-rest l = (done : List ℕ) × Rest l.x done l.rest × (l.next ≡ l.at + length done) × (l.out ≡ overlaid l.initial.out l.at done)

abbrev pub decreases-loop-rest : goal.decreases-loop-rest
decreases-loop-rest l = l.rest
