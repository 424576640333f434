-- `editions::fill_on` meets its contract: the numbers stand, so they are taken to the last one. Assumes nothing.
use Rattle.editions.proofs.Filling.{taken_on, taken_whole}
use Rattle.editions.proofs.fill_on.Goals as goal

pub unwrap-requires : goal.unwrap-requires
unwrap-requires c =
    taken_whole c.args.out.now c.args.count c.args.to c.requires.all_numbers c.requires.count_in_bounds _ _ c.take_words.ensures

pub returns : goal.returns
returns c =
    taken_on c.args.out.now c.args.count c.args.to c.requires.all_numbers c.requires.count_in_bounds _ _ c.unwrap.ensures c.take_words.ensures
