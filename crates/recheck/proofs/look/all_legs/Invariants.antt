-- `recheck::look::all_legs` meets its contract: leg by leg, up to the first violated place or the end. Assumes nothing.
use Rattle.recheck.specs.Steps.{LookedTo}
use Rattle.recheck.proofs.look.all_legs.Given as goal

abbrev pub invariant-loop-a : goal.invariant-loop-a
invariant-loop-a l = LookedTo l.m.plan.now l.m.at l.a 0 l.n
