-- `offsets::search::Search::settled` meets its contract: each turn passes on, and the search rises. Assumes nothing.
use Rattle.std.proofs.Common.{◌-◌}
use Rattle.offsets.proofs.Stepping.{Passing}
use Rattle.offsets.proofs.search.Search.settled.Given as goal

abbrev pub invariant-loop-t : goal.invariant-loop-t
invariant-loop-t l = Passing l.self.conditions.now l.self.limit l.initial.t.x l.t.x

abbrev pub decreases-loop-t : goal.decreases-loop-t
decreases-loop-t l = l.self.limit - l.t.x
