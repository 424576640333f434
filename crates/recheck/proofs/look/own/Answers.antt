-- `recheck::look::own` meets its contract: each place of the leg is listed. Assumes nothing.
use Rattle.recheck.proofs.Looking.{looked_none}
use Rattle.recheck.proofs.Stepping.{own_read}
use Rattle.recheck.proofs.look.own.Goals as goal

pub loop-p-init : goal.loop-p-init
loop-p-init c = looked_none c.args.m.now.inside

pub look-requires-clause-p_value : goal.look-requires-clause-p_value
look-requires-clause-p_value c = own_read _ _ _
