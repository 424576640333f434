-- `export::why::passing`: the cycle stays within the limit. Assumes nothing.
use Rattle.std.proofs.Common.{◌≤◌}
use Rattle.gates.specs.Pairs.{max_cycle}
use Rattle.export.proofs.why.passing.Given as goal

abbrev pub invariant-loop-a : goal.invariant-loop-a
invariant-loop-a l = l.cycle ≤ max_cycle
