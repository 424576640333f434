-- `offsets::search::Search::swept` meets its contract: by the conditions before the present one, and then by it. Assumes nothing.
use Rattle.offsets.proofs.Stepping.{Sweeping}
use Rattle.offsets.proofs.search.Search.swept.Given as goal

abbrev pub invariant-loop-q : goal.invariant-loop-q
invariant-loop-q l = Sweeping l.self.conditions.now l.self.limit l.x l.q-index l.y
