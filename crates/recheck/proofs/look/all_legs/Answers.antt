-- `recheck::look::all_legs` meets its contract: leg by leg, up to the first violated place or the end. Assumes nothing.
use Rattle.recheck.proofs.Looking.{looked_next}
use Rattle.recheck.proofs.look.all_legs.Goals as goal

pub loop-a-init : goal.loop-a-init
loop-a-init c = looked_next c.in_ok-n.ensures

pub loop-a-preserved : goal.loop-a-preserved
loop-a-preserved c = looked_next c.in_ok-n-2.ensures
