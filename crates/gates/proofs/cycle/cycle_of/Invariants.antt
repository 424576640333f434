-- `gates::cycle::cycle_of` meets its contract: the cycle of the slots passed. Assumes nothing.
use Rattle.std.proofs.Common.{◌≤◌, length}
use Rattle.gates.specs.Pairs.{max_cycle}
use Rattle.gates.specs.Cycle.{IsCycle}
use Rattle.gates.specs.Steps.{InSlots}
use Rattle.gates.proofs.cycle.cycle_of.Given as goal

abbrev pub invariant-loop-s : goal.invariant-loop-s
invariant-loop-s l = IsCycle (InSlots l.slots l.s-index) l.cycle × (l.cycle ≤ max_cycle) × (l.s-index ≤ length l.slots)
