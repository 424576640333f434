-- `solver::walk::back` meets its contract. Assumes nothing.
use Rattle.solver.proofs.SteppingBack.{edge, stepped}
use Rattle.solver.proofs.walk.back.Goals as goal

pub constraint-c-requires : goal.constraint-c-requires
constraint-c-requires c =
    edge c.args.network.now.events c.args.network.now.constraints.now c.args.by.now c.args.k c.args.x c.args.path.now c.args.seen.now c.args.network.now.in_range c.requires.walking c.requires.x_value

pub returns : goal.returns
returns c =
    stepped c.args.network.now.events c.args.network.now.constraints.now c.args.by.now c.args.k c.args.x c.args.path.now c.args.seen.now c.args.network.now.in_range c.requires.walking c.requires.x_value
    c.constraint-c.result.from c.constraint-c.ensures.from
