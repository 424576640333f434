-- `recheck::look::hop` meets its contract: the window is not listed, and the hop is where it is asked of the next leg. Assumes nothing.
use Rattle.std.proofs.Common.{◌<◌, arith}
use Rattle.shape.specs.Legs.{end_of}
use Rattle.recheck.proofs.Stepping.{next_hop}
use Rattle.recheck.proofs.Looking.{to_hop, no_hop_there, its_end}
use Rattle.recheck.proofs.look.hop.Goals as goal
use Rattle.recheck.proofs.look.hop.Goals.{else-leg-m-via-then-leg-m+else-leg-m-2, else-leg-m-via-else-leg-m}

pub look-requires-clause-p_value : goal.look-requires-clause-p_value
look-requires-clause-p_value c =
    let later = c.requires.later in
    let h : c.args.leg.now.at < end_of c.args.leg.now.plan.now c.args.m.now.at = omega (arith, c.if-leg-m-2.true, its_end later.same c.args.m.now.frame_of) in
    next_hop _ _ _ c.if-leg-m.true h

pub look-requires-clause-looked_to : goal.look-requires-clause-looked_to
look-requires-clause-looked_to c = to_hop c.requires.later.above c.requires.looked_to

pub returns : goal.returns
returns c =
    let later = c.requires.later in
    let end = its_end later.same c.args.m.now.frame_of in
    elim c.else-leg-m.branch [
      | else-leg-m-via-then-leg-m+else-leg-m-2 w ↦ no_hop_there later.above c.requires.looked_to (λ x. omega (arith, x.1, w.if-leg-m-2.false, end))
      | else-leg-m-via-else-leg-m w ↦ no_hop_there later.above c.requires.looked_to (λ x. w.if-leg-m.false x.0)
    ]
