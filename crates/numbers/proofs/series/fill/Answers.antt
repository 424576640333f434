-- `numbers::series::fill` meets its contract: the numbers stand, so they are taken to the last one. Assumes nothing.
use Rattle.numbers.proofs.Rows.{taken_fills}
use Rattle.numbers.proofs.series.fill.Goals as goal

pub returns : goal.returns
returns c =
    taken_fills c.take_words.result _ c.requires.all_numbers c.requires.count_in_bounds c.take_words.ensures
