-- `admission::Candidate::least_offset` meets its contract: what all legs ask, in time and soon enough, is that the offset fits. Assumes nothing.
use Rattle.std.proofs.Common.{rules, refl}
use Rattle.admission.proofs.Leasts.{some_link, fitting_least, too_late_is}
use Rattle.admission.proofs.Candidate.least_offset.Goals as goal

pub returns-then-self-arrived : goal.returns-then-self-arrived
returns-then-self-arrived c = let late = rw (← c.self.view_is) at c.after_of-arrived.ensures in rw (← c.self.view_is) (too_late_is c.self.invariant c.args.limit c.args.from late (search rules))

pub overflow_sub-links : goal.overflow_sub-links
overflow_sub-links c = search some_link

pub returns : goal.returns
returns c =
    let ends = rw (← c.self.view_is) at c.after_of-arrived.ensures in
    let lasts = rw (← c.self.view_is) at c.after_of-last.ensures in
    let found = rw (← c.self.view_is) at c.least_asked.ensures in
    rw (← c.self.view_is) (fitting_least c.self.invariant ends lasts c.end_of-end.ensures c.args.from c.least_asked.result refl (search rules) found)
