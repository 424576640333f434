-- `recheck::look::look` meets its contract: one place more. Assumes nothing.
use Rattle.recheck.proofs.Looking.{looked_more}
use Rattle.recheck.proofs.look.look.Goals as goal

pub returns-in-None : goal.returns-in-None
returns-in-None c = looked_more c.args.leg.now.inside c.requires.p_bound c.requires.p_value c.requires.looked_to c.in-None.ensures
