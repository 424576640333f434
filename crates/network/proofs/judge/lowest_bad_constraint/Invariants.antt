-- `network::judge::lowest_bad_constraint` meets its contract: every constraint passed is in range. Assumes nothing.
use Rattle.std.proofs.Common.{ℕ, ◌<◌}
use Rattle.network.specs.Constraints.{InRange}
use Rattle.network.proofs.judge.lowest_bad_constraint.Given as goal

abbrev pub invariant-loop-k : goal.invariant-loop-k
invariant-loop-k l = (i : ℕ) → i < l.k → InRange l.events l.constraints i
