-- `offsets::search::searched` meets its contract: nothing below the search is allowed, and it rises until it stays. Assumes nothing.
use Rattle.std.proofs.Common.{◌-◌}
use Rattle.offsets.proofs.Stepping.{Searching}
use Rattle.offsets.proofs.search.searched.Given as goal

abbrev pub invariant-loop-s : goal.invariant-loop-s
invariant-loop-s l = Searching l.conditions l.limit l.from l.s.x

abbrev pub decreases-loop-s : goal.decreases-loop-s
decreases-loop-s l = l.limit - l.s.x
