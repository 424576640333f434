-- `admission::Candidate::keep_old` meets its contract: the conditions of the legs before the present one are kept. Assumes nothing.
use Rattle.table.specs.Layout.{leg_count}
use Rattle.admission.proofs.Asking.{Kept}
use Rattle.admission.proofs.Candidate.keep_old.Given as goal

abbrev pub invariant-loop-a : goal.invariant-loop-a
invariant-loop-a l = Kept l.self.table l.self.wanted l.self.route (leg_count l.self.table) l.initial.conditions l.conditions l.a
