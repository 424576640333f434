-- `admission::Candidate::keep_new` meets its contract: the conditions of the legs before the present one are kept. Assumes nothing.
use Rattle.admission.proofs.Asking.{KeptNew}
use Rattle.admission.proofs.Candidate.keep_new.Given as goal

abbrev pub invariant-loop-j : goal.invariant-loop-j
invariant-loop-j l = KeptNew l.self.table l.self.wanted l.self.route l.legs l.initial.conditions l.conditions l.j
