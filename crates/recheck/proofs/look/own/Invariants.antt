-- `recheck::look::own` meets its contract: each place of the leg is listed. Assumes nothing.
use Rattle.recheck.specs.Steps.{LookedTo}
use Rattle.recheck.proofs.look.own.Given as goal

abbrev pub invariant-loop-p : goal.invariant-loop-p
invariant-loop-p l = LookedTo l.m.plan.now l.m.at l.m.at l.p l.n
