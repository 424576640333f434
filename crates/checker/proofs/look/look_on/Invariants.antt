-- `checker::look::look_on` meets its contract: at each leg the places passed hold, and the budget used is their number. Assumes nothing.
use Rattle.checker.proofs.LookLaws.{Turn}
use Rattle.checker.proofs.look.look_on.Given as goal

abbrev pub invariant-loop-a : goal.invariant-loop-a
invariant-loop-a l = Turn l.chains.plan.now l.cursor l.budget l.legs l.a l.p l.left
