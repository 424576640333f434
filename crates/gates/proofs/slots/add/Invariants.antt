-- `gates::slots::add` meets its contract: the slot is among those before it, wherever the swaps have brought it. Assumes nothing.
use Rattle.gates.specs.Steps.{Added}
use Rattle.gates.proofs.slots.add.Given as goal

abbrev pub invariant-loop-i : goal.invariant-loop-i
invariant-loop-i l = Added l.fn.slots l.n l.fn.s l.slots
