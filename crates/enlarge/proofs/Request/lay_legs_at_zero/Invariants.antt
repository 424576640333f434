-- `enlarge::Request::lay_legs_at_zero` meets its contract: the legs passed are laid at offset 0. Assumes nothing.
use Rattle.enlarge.proofs.LegTurns.{LayingAtZero}
use Rattle.enlarge.proofs.Request.lay_legs_at_zero.Given as goal

abbrev pub invariant-loop-link : goal.invariant-loop-link
invariant-loop-link l = LayingAtZero l.self.table.now l.self.route.now l.initial.out l.at l.out l.next l.link-index
