-- `offsets::search::Search::hinted` meets its contract: one step after the other, whatever the hints say. Assumes nothing.
use Rattle.offsets.proofs.Stepping.{Passing}
use Rattle.offsets.proofs.search.Search.hinted.Given as goal

abbrev pub invariant-loop-hint : goal.invariant-loop-hint
invariant-loop-hint l = Passing l.self.conditions.now l.self.limit l.initial.t.x l.t.x
