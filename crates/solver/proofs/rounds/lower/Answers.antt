-- `solver::rounds::lower` meets its contract: a broken constraint lowers its end, and one that holds changes nothing. Assumes nothing.
use Rattle.std.proofs.Common.{◌≡◌, ◌∙◌, ◌<◌, arith, ◌+ℤ◌, w64, SFits, to_z-of_z}
use Rattle.signed.proofs.Parts.{mag_abs}
use Rattle.signed.proofs.Ranges.{less_yes, less_no}
use Rattle.network.specs.Constraints.{max_events, times_of}
use Rattle.solver.proofs.Lowering.{stayed, fell}
use Rattle.solver.proofs.rounds.lower.Goals.{After-constraint-c, After-sum-arg-1, After-sum-s, After-y-1}
use Rattle.solver.proofs.rounds.lower.Goals as goal

most-fits : (c : After-constraint-c) → SFits w64 c.constraint-c.result.most
most-fits c = record { sfits = omega (arith, mag_abs c.constraint-c.result.most, c.constraint-c.ensures.most_in) }

begin-fits : (c : After-sum-arg-1) → SFits w64 (times_of c.args.lowered.now.times c.constraint-c.result.from)
begin-fits c = record { sfits = c.sum-arg-1.given }

sum_fits : (c : After-sum-s) → SFits w64 c.sum-s.result
sum_fits c = record { sfits = c.sum-s.type_inv }

sum_is : (c : After-sum-s) → c.sum-s.result ≡ times_of c.args.lowered.now.times c.constraint-c.result.from +ℤ c.constraint-c.result.most
sum_is c =
    let begin-fits : SFits w64 (times_of c.args.lowered.now.times c.constraint-c.result.from) = record { sfits = c.sum-arg-1.given } in
    let most-fits : SFits w64 c.constraint-c.result.most = record { sfits = omega (arith, mag_abs c.constraint-c.result.most, c.constraint-c.ensures.most_in) } in
    c.sum-s.ensures ∙ rw (to_z-of_z begin-fits, to_z-of_z most-fits)

end_fits : (c : After-y-1) → SFits w64 (times_of c.args.lowered.now.times c.constraint-c.result.to)
end_fits c = record { sfits = c.y-1.given }

pub sum-s-requires : goal.sum-s-requires
sum-s-requires c =
    rw (to_z-of_z (begin-fits (goal.at.sum-s-requires c).After-sum-arg-1), to_z-of_z (most-fits (goal.at.sum-s-requires c).After-constraint-c))
    (omega (arith, c.requires.stands.kept.small c.constraint-c.result.from c.constraint-c.ensures.from_in, c.constraint-c.ensures.most_in))

pub returns-then-s-y-clause-stands_2 : goal.returns-then-s-y-clause-stands_2
returns-then-s-y-clause-stands_2 c = let j : c.constraint-c.result.to < max_events = omega (arith, c.constraint-c.ensures.to_in, c.args.network.now.in_range.size.events) in rw (to_z-of_z (sum_fits (goal.at.returns-then-s-y-clause-stands_2 c).After-sum-s))
    (fell c.args.network.now.events c.args.network.now.constraints.now c.args.base c.args.k c.args.lowered.now.times c.args.lowered.now.ticks c.args.lowered.now.by
    c.args.network.now.in_range c.requires.k_bound_2 c.requires.stands c.constraint-c.result c.constraint-c.ensures c.sum-s.result (sum_is (goal.at.returns-then-s-y-clause-stands_2 c).After-sum-s)
    (less_yes (sum_fits (goal.at.returns-then-s-y-clause-stands_2 c).After-sum-s) (end_fits (goal.at.returns-then-s-y-clause-stands_2 c).After-y-1) c.if-s-y.true))

pub returns-clause-stands_2 : goal.returns-clause-stands_2
returns-clause-stands_2 c = stayed c.args.network.now.events c.args.network.now.constraints.now c.args.base c.args.k c.args.lowered.now.times c.args.lowered.now.ticks c.args.lowered.now.by
    c.args.network.now.in_range c.requires.k_bound_2 c.requires.stands c.constraint-c.result c.constraint-c.ensures c.sum-s.result (sum_is (goal.at.returns-clause-stands_2 c).After-sum-s)
    (less_no (sum_fits (goal.at.returns-clause-stands_2 c).After-sum-s) (end_fits (goal.at.returns-clause-stands_2 c).After-y-1) c.if-s-y.false)
