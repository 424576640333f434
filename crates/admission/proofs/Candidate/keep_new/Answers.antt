-- `admission::Candidate::keep_new` meets its contract: the conditions of the legs before the present one are kept. Assumes nothing.
use Rattle.admission.proofs.Asking.{kept_new_on}
use Rattle.admission.proofs.Candidate.keep_new.Goals as goal

pub loop-j-preserved : goal.loop-j-preserved
loop-j-preserved c =
    let kept = rw (← c.self.view_is) at c.loop-j.invariant in
    let says = rw (← c.self.view_is) at c.new_condition.ensures in
    rw (← c.self.view_is) (search kept_new_on)
