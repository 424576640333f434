-- `seen::front_of` meets its contract: the mark and the edition are read as numbers, and a number is read in one way. Assumes nothing.
use Rattle.seen.proofs.Laws.{number_none, number_read, after}
use Rattle.seen.proofs.Fronts.{no_mark, other_mark, no_edition, front_read, front_within}
use Rattle.seen.proofs.front_of.Goals as goal

pub returns-in_err-mark : goal.returns-in_err-mark
returns-in_err-mark c = rw c.from_residual.ensures (no_mark _ (number_none _ c.read_number.ensures c.in_err-mark.ensures.value).1)

pub returns-then-mark : goal.returns-then-mark
returns-then-mark c = other_mark _ (number_read _ c.read_number.ensures c.in_ok-mark.ensures.value) c.if-mark.true

pub returns-in_err-edition : goal.returns-in_err-edition
returns-in_err-edition c =
    rw c.from_residual-in_err-edition.ensures
    (no_edition _ (number_read _ c.read_number.ensures c.in_ok-mark.ensures.value) c.if-mark.false (number_none _ c.read_number-2.ensures c.in_err-edition.ensures.value).1)

pub returns : goal.returns
returns c =
    let first = number_read _ c.read_number.ensures c.in_ok-mark.ensures.value in
    let second = number_read _ c.read_number-2.ensures c.in_ok-edition.ensures.value in
    rw (after _ _ (front_within _ first c.if-mark.false second)) (front_read _ first c.if-mark.false second)
