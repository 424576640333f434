-- `gates::pairs::grow` meets its contract. Assumes nothing.
use Rattle.std.proofs.Common.{◌-◌, ◌≡◌, arith}
use Rattle.gates.specs.Steps.{longer, next, full}
use Rattle.gates.proofs.pairs.grow.Goals as goal

pub returns-then-out-j : goal.returns-then-out-j
returns-then-out-j c = longer (c.args.n - 1) (omega arith) c.if-out-j.true

pub returns-then-n-lt-MAX_PAIRS : goal.returns-then-n-lt-MAX_PAIRS
returns-then-n-lt-MAX_PAIRS c = next (λ j e m. let j' : c.args.n - 1 ≡ j = omega arith in grind arith) c.if-n-lt-MAX_PAIRS.true

pub returns : goal.returns
returns c = full (λ j e m. let j' : c.args.n - 1 ≡ j = omega arith in grind arith) c.if-n-lt-MAX_PAIRS.false
