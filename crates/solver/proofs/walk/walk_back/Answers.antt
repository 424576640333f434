-- `solver::walk::walk_back` meets its contract: the walk ends, since each step leaves an event that was not left before. Assumes nothing.
use Rattle.std.proofs.Common.{◌≡◌, ℕ, ◌+◌, ◌-◌, ◌<◌, ◌≤◌, arith, get_or}
use Rattle.solver.proofs.SteppingBack.{space, found, short}
use Rattle.solver.proofs.walk.walk_back.Goals.{After-loop-seen, At-loop-seen, In-loop-seen}
use Rattle.solver.proofs.walk.walk_back.Goals as goal

here : (c : At-loop-seen) → c.loop-seen.x < 128
here c = omega (arith, c.loop-seen.invariant.walked.here, c.args.network.now.in_range.size.events)

walked-in : (c : At-loop-seen) → c.loop-seen.k ≤ 128
walked-in c = omega (arith, c.loop-seen.invariant.walked.count, c.args.network.now.in_range.size.events)

space-of : (c : In-loop-seen) → c.loop-seen.k < c.args.network.now.events
space-of c =
    space c.args.network.now.events c.args.network.now.constraints.now c.args.by.now c.loop-seen.k c.loop-seen.x c.loop-seen.path c.loop-seen.seen c.args.network.now.in_range c.loop-seen.invariant c.loop-seen-test.true

met : (c : After-loop-seen) → 0 < get_or c.loop-seen.seen c.loop-seen.x 0
met c = omega (arith, c.loop-seen-test.false)

seen_in : (c : After-loop-seen) → get_or c.loop-seen.seen c.loop-seen.x 0 ≤ c.loop-seen.k
seen_in c =
    (c.loop-seen.invariant.walked.found c.loop-seen.x c.loop-seen.invariant.walked.here (met c)).0

pub back-x-requires-clause-k_lt_max_events : goal.back-x-requires-clause-k_lt_max_events
back-x-requires-clause-k_lt_max_events c = (omega (arith, space-of (goal.at.back-x-requires-clause-k_lt_max_events c).In-loop-seen, c.args.network.now.in_range.size.events), omega (arith, here (goal.at.back-x-requires-clause-k_lt_max_events c).At-loop-seen))

pub returns : goal.returns
returns c =
    let len : ℕ = c.loop-seen.k + 1 - get_or c.loop-seen.seen c.loop-seen.x 0 in
    let e : len + get_or c.loop-seen.seen c.loop-seen.x 0 ≡ c.loop-seen.k + 1 = omega (arith, seen_in (goal.at.returns c).After-loop-seen) in
    record {
      chain = found c.args.network.now.events c.args.network.now.constraints.now c.args.by.now c.loop-seen.k c.loop-seen.x c.loop-seen.path c.loop-seen.seen c.args.network.now.in_range c.loop-seen.invariant (met (goal.at.returns c).After-loop-seen) len e;
      short = short c.args.network.now.events c.args.network.now.constraints.now c.args.by.now c.loop-seen.k c.loop-seen.x c.loop-seen.path c.loop-seen.seen c.args.network.now.in_range c.loop-seen.invariant (met (goal.at.returns c).After-loop-seen) len e;
      within = omega (arith, seen_in (goal.at.returns c).After-loop-seen, met (goal.at.returns c).After-loop-seen, walked-in (goal.at.returns c).At-loop-seen);
      long = c.loop-seen.invariant.paths;
    }
