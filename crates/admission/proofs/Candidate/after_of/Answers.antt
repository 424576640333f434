-- `admission::Candidate::after_of` meets its contract: the walk is at leg i when that leg starts. Assumes nothing.
use Rattle.admission.proofs.Walking.{walked_none, walked_sendable, walked_on, walked_all}
use Rattle.admission.proofs.Candidate.after_of.Goals as goal

pub loop-link-init : goal.loop-link-init
loop-link-init c = let inside = rw (← c.self.view_is) at c.requires in rw (← c.self.view_is) (search walked_none)

pub sent_on-start-requires : goal.sent_on-start-requires
sent_on-start-requires c = let walk = rw (← c.self.view_is) at c.loop-link.invariant in search walked_sendable

pub loop-link-preserved : goal.loop-link-preserved
loop-link-preserved c = let walk = rw (← c.self.view_is) at c.loop-link.invariant in rw (← c.self.view_is) (search walked_on)

pub returns : goal.returns
returns c = let walk = rw (← c.self.view_is) at c.loop-link.invariant in rw (← c.self.view_is) (search walked_all)
