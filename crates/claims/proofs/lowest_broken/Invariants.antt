-- `claims::lowest_broken` meets its contract: the times keep every constraint passed. Assumes nothing.
use Rattle.std.proofs.Common.{ℕ, ◌<◌}
use Rattle.network.specs.Constraints.{network_of}
use Rattle.claims.specs.Claims.{KeepsOne}
use Rattle.claims.proofs.lowest_broken.Given as goal

abbrev pub invariant-loop-k : goal.invariant-loop-k
invariant-loop-k l = (i : ℕ) → i < l.k → KeepsOne (network_of l.network.constraints.now) l.times i
