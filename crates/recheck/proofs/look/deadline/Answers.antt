-- `recheck::look::deadline` meets its contract. Assumes nothing.
use Rattle.std.proofs.Common.{◌∙◌, sym}
use Rattle.recheck.proofs.Stepping.{last_deadline}
use Rattle.recheck.proofs.Looking.{no_deadline_there, its_end}
use Rattle.recheck.proofs.look.deadline.Goals as goal

pub look-requires-clause-p_value : goal.look-requires-clause-p_value
look-requires-clause-p_value c =
    let later = c.requires.later in
    last_deadline _ _ _ (c.if-leg-m.true ∙ its_end later.same c.args.m.now.frame_of)

pub returns : goal.returns
returns c =
    let later = c.requires.later in
    no_deadline_there later.above c.requires.looked_to (λ e. c.if-leg-m.false (e ∙ sym (its_end later.same c.args.m.now.frame_of)))
