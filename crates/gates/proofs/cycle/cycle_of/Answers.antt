-- `gates::cycle::cycle_of` meets its contract: the cycle of the slots passed. Assumes nothing.
use Rattle.std.proofs.Common.{arith}
use Rattle.gates.proofs.Cycles.{cycle_none, cycle_more, cycle_past}
use Rattle.gates.proofs.cycle.cycle_of.Goals as goal

pub loop-s-init : goal.loop-s-init
loop-s-init c = (cycle_none _, omega arith, omega arith)

pub returns-then-cycle-gt-MAX_CYCLE : goal.returns-then-cycle-gt-MAX_CYCLE
returns-then-cycle-gt-MAX_CYCLE c =
    cycle_past _ _ _ _ c.loop-s-test.true (cycle_more _ _ _ _ c.loop-s.invariant.0 c.lcm-cycle.ensures) c.if-cycle-gt-MAX_CYCLE.true

pub loop-s-preserved : goal.loop-s-preserved
loop-s-preserved c =
    (cycle_more _ _ _ _ c.loop-s.invariant.0 c.lcm-cycle.ensures, c.if-cycle-gt-MAX_CYCLE.false, omega arith)
