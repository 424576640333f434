-- `admission::Candidate::after_of` meets its contract: the walk is at leg i when that leg starts. Assumes nothing.
use Rattle.admission.proofs.Walking.{Walked}
use Rattle.admission.proofs.Candidate.after_of.Given as goal

abbrev pub invariant-loop-link : goal.invariant-loop-link
invariant-loop-link l = Walked l.self.table l.self.wanted l.self.route l.j l.start l.link-index
