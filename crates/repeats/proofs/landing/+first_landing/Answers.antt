-- The proof of the cycle of calls {first_landing}: the step falls, since the inner circle's step is a remainder by it. Assumes nothing.
use Rattle.repeats.proofs.Circle.{never_lands, lands_later}
use Rattle.repeats.proofs.landing.+first_landing.Goals as goal

pub returns-in_err-inner : goal.returns-in_err-inner
returns-in_err-inner t c =
    rw c.from_residual.ensures (never_lands c.requires c.if-step-eq0.false c.nearest-near.ensures c.if-reach-to.false c.in_err-inner.was c.first_landing.ensures)

pub returns : goal.returns
returns t c = lands_later c.requires c.if-step-eq0.false c.nearest-near.ensures c.if-reach-to.false c.in_ok-inner.was c.first_landing.ensures
