-- `seen::known_in` meets its contract: there is one way to split what was seen, and its parts tell. Assumes nothing.
use Rattle.std.proofs.Common.{rules}
use Rattle.seen.proofs.Laws.{split_known}
use Rattle.seen.proofs.known_in.Goals as goal

pub returns-else-same : goal.returns-else-same
returns-else-same c = split_known c.in-Some.ensures (search rules)
