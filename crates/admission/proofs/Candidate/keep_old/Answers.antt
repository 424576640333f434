-- `admission::Candidate::keep_old` meets its contract: the conditions of the legs before the present one are kept. Assumes nothing.
use Rattle.admission.proofs.Asking.{kept_on}
use Rattle.admission.proofs.Candidate.keep_old.Goals as goal

pub loop-a-preserved : goal.loop-a-preserved
loop-a-preserved c =
    let kept = rw (← c.self.view_is) at c.loop-a.invariant in
    let says = rw (← c.self.view_is) at c.old_condition.ensures in
    rw (← c.self.view_is) (search kept_on)
