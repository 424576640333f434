-- `rules::times::octets_last` meets its contract: no more octets than the longest frame and those beside it, at the largest rate. Assumes nothing.
use Rattle.std.proofs.Common.{ℕ, ◌+◌, ◌*◌, ◌≤◌, mul-le-mul, refl, arith}
use Rattle.shape.specs.Guarantees.{max_rate}
use Rattle.shape.specs.Streams.{max_octets}
use Rattle.rules.specs.Times.{hold_octets, lasting, max_time}
use Rattle.rules.proofs.times.octets_last.Goals as goal

-- Some octets last some time, and no longer than the most at the largest rate.
product : (n r : ℕ) → 1 ≤ n → n ≤ max_octets + hold_octets → 1 ≤ r → r ≤ max_rate → (n * r ≤ max_time) × (1 ≤ n * r)
product n r some few slow fast =
    let m : n * r ≤ (max_octets + hold_octets) * max_rate = mul-le-mul few fast in
    let k : 1 * 1 ≤ n * r = mul-le-mul some slow in
    (omega arith, omega arith)

pub returns : goal.returns
unfolding lasting
returns c =
    let p = product (c.args.octets + c.args.beside) c.args.rate (omega arith) (omega arith) (omega arith) (omega arith) in
    record { same = refl; from = p.1; to = p.0 }
