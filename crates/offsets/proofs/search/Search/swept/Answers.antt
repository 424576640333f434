-- `offsets::search::Search::swept` meets its contract: by the conditions before the present one, and then by it. Assumes nothing.
use Rattle.std.proofs.Common.{arith}
use Rattle.offsets.proofs.Stepping.{sweeping_on, sweeping_all}
use Rattle.offsets.proofs.search.Search.swept.Goals as goal

pub loop-q-preserved : goal.loop-q-preserved
loop-q-preserved c = search sweeping_on

pub returns : goal.returns
returns c = sweeping_all c.loop-q.invariant (omega arith)
