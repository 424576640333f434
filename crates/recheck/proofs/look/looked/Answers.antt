-- `recheck::look::looked` meets its contract: first the leg's own places. Assumes nothing.
use Rattle.recheck.proofs.Looking.{all_looked, broken_first}
use Rattle.recheck.proofs.look.looked.Goals as goal

pub returns-in-Ok : goal.returns-in-Ok
returns-in-Ok c =
    let plan = c.of-m.ensures.plan in
    let leg = c.of-m.ensures.at in
    all_looked c.requires (rw (plan, leg) at c.in-Ok.ensures)

pub returns-in-Err : goal.returns-in-Err
returns-in-Err c =
    let plan = c.of-m.ensures.plan in
    let leg = c.of-m.ensures.at in
    broken_first c.requires (rw (plan, leg) at c.in-Err.ensures)
