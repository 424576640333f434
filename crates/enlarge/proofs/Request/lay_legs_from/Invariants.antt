-- `enlarge::Request::lay_legs_from` meets its contract: the legs passed are laid without waiting, and the next one starts when the frame is there. Assumes nothing.
use Rattle.enlarge.proofs.LegTurns.{LayingFrom}
use Rattle.enlarge.proofs.Request.lay_legs_from.Given as goal

abbrev pub invariant-loop-link : goal.invariant-loop-link
invariant-loop-link l = LayingFrom l.self.table.now l.self.wanted l.self.route.now l.x l.initial.out l.at l.period l.out l.start l.next l.link-index
