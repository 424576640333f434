-- `recheck::look::beyond` meets its contract: with a leg of another link nothing is broken. Assumes nothing.
use Rattle.std.proofs.Common.{ap}
use Rattle.table.specs.declared.Leg.{Leg}
use Rattle.recheck.proofs.Looking.{leg_of_plan, beyond_own, beyond_apart}
use Rattle.recheck.proofs.look.beyond.Goals as goal

pub returns-then-leg-m : goal.returns-then-leg-m
returns-then-leg-m c =
    let other = ap (λ (l : Leg). l.link) c.leg.ensures.leg in
    let m = c.args.m.now in
    beyond_apart (leg_of_plan m.inside c.requires.above.1) c.requires.above.0 c.requires.end_value m.frame_of.link other c.if-leg-m.true c.requires.looked_to

pub pairs-requires-clause-looked_to : goal.pairs-requires-clause-looked_to
pairs-requires-clause-looked_to c =
    let plan = c.of.ensures.plan in
    let leg = c.of.ensures.at in
    rw (plan, leg) (beyond_own c.requires.above.0 c.requires.end_value c.requires.looked_to)
