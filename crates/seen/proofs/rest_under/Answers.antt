-- `seen::rest_under` meets its contract: one edition stands in front, and it is the one that is asked for or not. Assumes nothing.
use Rattle.seen.proofs.Fronts.{named_other}
use Rattle.seen.proofs.rest_under.Goals as goal

pub returns-then-named-edition : goal.returns-then-named-edition
returns-then-named-edition c = named_other _ c.in_ok-named.ensures c.if-named-edition.true
