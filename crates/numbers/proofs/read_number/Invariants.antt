-- `numbers::read_number` meets its contract: after each byte `Passed` holds, and each way out of the loop is one of its laws.
-- Assumes nothing.
use Rattle.std.proofs.Common.{◌-◌}
use Rattle.numbers.proofs.Passing.{Passed}
use Rattle.numbers.proofs.read_number.Given as goal

abbrev pub invariant-loop-next : goal.invariant-loop-next
invariant-loop-next l = Passed l.bytes l.at l.next (l.next - l.at) l.weight l.value
