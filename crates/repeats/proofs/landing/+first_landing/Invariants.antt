-- The proof of the cycle of calls {first_landing}: the step falls, since the inner circle's step is a remainder by it. Assumes nothing.
use Rattle.repeats.proofs.landing.+first_landing.Given as goal

-- The measure of the recursion.
abbrev pub decreases-first_landing : goal.decreases-first_landing
decreases-first_landing l = l.step
