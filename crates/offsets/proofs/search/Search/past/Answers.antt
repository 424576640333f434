-- `offsets::search::Search::past` meets its contract: too early, too late, or allowed. Assumes nothing.
use Rattle.std.proofs.Common.{rules}
use Rattle.offsets.proofs.Waiting.{waits_early, waits_late}
use Rattle.offsets.proofs.search.Search.past.Goals as goal

pub moved-requires-clause-waits : goal.moved-requires-clause-waits
moved-requires-clause-waits c = waits_early _ _ _ c.reduced-r.ensures c.if-r-q.true

pub moved-requires-then-m-r-clause-waits : goal.moved-requires-then-m-r-clause-waits
moved-requires-then-m-r-clause-waits c = waits_late _ _ _ c.reduced-r.ensures c.requires.sound (search rules)
