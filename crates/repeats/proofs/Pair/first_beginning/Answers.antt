-- `repeats::Pair::first_beginning` meets its contract: at once where the entry lies in the hold, or after the steps of the first landing. Assumes nothing.
use Rattle.repeats.proofs.Begun.{never_at_all, after_steps}
use Rattle.repeats.proofs.Pair.first_beginning.Goals as goal

pub returns-in_err-landing : goal.returns-in_err-landing
returns-in_err-landing c =
    rw c.from_residual.ensures (never_at_all c.args.self.now.brief c.args.self.now.brief_2 c.first_entry-e.ensures c.if-e-self.false c.in_err-landing.was c.first_landing.ensures)

pub returns : goal.returns
returns c =
    after_steps c.args.self.now.brief c.args.self.now.brief_2 c.first_entry-e.ensures c.if-e-self.false c.in_ok-landing.was c.first_landing.ensures c.beginning-2.ensures
