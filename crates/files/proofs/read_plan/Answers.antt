-- `files::read_plan` meets its contract: what was looked through without a refusal is the file of a table, and filling takes that table.
-- Assumes nothing.
use Rattle.files.proofs.Looking.{all_numbers, filled_table}
use Rattle.files.proofs.read_plan.Goals as goal

pub fill-requires-clause-all_numbers : goal.fill-requires-clause-all_numbers
fill-requires-clause-all_numbers c = let t = c.in_ok-size.ensures in all_numbers t.0 t.1 t.2

pub returns : goal.returns
returns c =
    let t = c.in_ok-size.ensures in
    (t.0, t.1, filled_table t.0 t.1 t.2 c.if-words-size.false c.fill.ensures)
