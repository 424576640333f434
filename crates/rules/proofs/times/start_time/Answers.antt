-- `rules::times::start_time` meets its contract: no more periods than the most, and none longer than the longest. Assumes nothing.
use Rattle.std.proofs.Common.{ℕ, ◌*◌, ◌≤◌, mul-le-mul, refl, arith}
use Rattle.shape.specs.Streams.{max_period, max_periods}
use Rattle.rules.specs.Times.{start_time}
use Rattle.rules.proofs.times.start_time.Goals as goal

-- So late a leg lies at the most.
latest : (n p : ℕ) → n ≤ max_periods → p ≤ max_period → n * p ≤ max_periods * max_period
latest n p few short = mul-le-mul few short

pub returns : goal.returns
unfolding start_time
returns c =
    let l = latest c.args.periods c.args.period (omega arith) (omega arith) in
    record { same = refl; small = omega arith }
