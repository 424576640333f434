-- `editions::put_converted` meets its contract: the three parts are taken one after the other. Assumes nothing.
use Rattle.std.proofs.Common.{ℕ, ◌+◌, ap, arith}
use Rattle.table.specs.Layout.{head_words}
use Rattle.editions.proofs.Filling.{front_numbers, streams_numbers, legs_numbers, all_converted}
use Rattle.editions.proofs.put_converted.Goals as goal

pub fill_on-first_stream-requires-clause-all_numbers : goal.fill_on-first_stream-requires-clause-all_numbers
fill_on-first_stream-requires-clause-all_numbers c = let front = ap (λ (x : ℕ). head_words + x) c.part_words-at_streams.ensures.is in
    front_numbers c.requires.older c.requires.counted front

pub fill_wider-first_leg-requires-clause-all_numbers : goal.fill_wider-first_leg-requires-clause-all_numbers
fill_wider-first_leg-requires-clause-all_numbers c = let o = c.requires.older in
    let k = c.requires.counted in
    let front = ap (λ (x : ℕ). head_words + x) c.part_words-at_streams.ensures.is in
    let f = c.fill_on-first_stream.ensures in
    streams_numbers o k front f

pub fill_wider-requires-clause-all_numbers : goal.fill_wider-requires-clause-all_numbers
fill_wider-requires-clause-all_numbers c = let o = c.requires.older in
    let k = c.requires.counted in
    let front = ap (λ (x : ℕ). head_words + x) c.part_words-at_streams.ensures.is in
    let f = c.fill_on-first_stream.ensures in
    let g = c.fill_wider-first_leg.ensures in
    legs_numbers o k front f g

pub returns : goal.returns
returns c =
    all_converted
    c.requires.older
    c.requires.counted
    (ap (λ (x : ℕ). head_words + x) c.part_words-at_streams.ensures.is)
    c.fill_on-first_stream.ensures
    c.fill_wider-first_leg.ensures
    (omega (arith, c.part_words.ensures.is))
    c.fill_wider.ensures
