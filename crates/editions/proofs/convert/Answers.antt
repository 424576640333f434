-- `editions::convert` meets its contract: the header says how long the table is today. Assumes nothing.
use Rattle.std.proofs.Common.{refl, inr, arith}
use Rattle.editions.proofs.Wider.{converted_long}
use Rattle.editions.proofs.Filling.{header_numbers, old_header, size_today, limits_kept, limits_given, limits_past}
use Rattle.editions.proofs.convert.Goals as goal

pub fill-requires-clause-all_numbers : goal.fill-requires-clause-all_numbers
fill-requires-clause-all_numbers c = let u = c.requires.old_file in header_numbers u.0 u.1

pub returns-then-words-size : goal.returns-then-words-size
returns-then-words-size c =
    let u = c.requires.old_file in
    let w = limits_given _ _ c.header_words.ensures c.in_ok-size.ensures.value in
    let n = size_today u.0 u.1 c.fill.ensures refl c.requires.older w.1 in
    rw c.at-then-words-size.ensures (inr (refl, refl, record { table = u.0; file = u.1; long = omega arith }), refl)

pub put_converted-requires-clause-counted : goal.put_converted-requires-clause-counted
put_converted-requires-clause-counted c = let o = c.requires.older in
    let u = c.requires.old_file in
    let w = limits_given _ _ c.header_words.ensures c.in_ok-size.ensures.value in
    let h = old_header u.0 u.1 c.fill.ensures refl in
    let n = size_today u.0 u.1 c.fill.ensures refl o w.1 in
    let l = converted_long o u.0 u.1.complete in record {
      table = u.0;
      file = u.1;
      links_are = h.word 1 (omega arith);
      streams_are = h.word 2 (omega arith);
      legs_are = h.word 3 (omega arith);
      fits = omega arith;
    }

pub returns-in_err-size : goal.returns-in_err-size
returns-in_err-size c =
    let u = c.requires.old_file in
    absurd (limits_past _ _ c.header_words.ensures c.in_err-size.ensures.value (λ w. limits_kept u.0 u.1 c.fill.ensures refl c.requires.older w))

pub returns : goal.returns
returns c =
    let v = c.put_converted.ensures in
    let w = limits_given _ _ c.header_words.ensures c.in_ok-size.ensures.value in
    let n = size_today v.table v.file c.fill.ensures refl c.requires.older w.1 in
    (v.table, v.file, record { count = n; room = omega arith; after = v.after })
