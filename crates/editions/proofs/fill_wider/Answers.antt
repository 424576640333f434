-- `editions::fill_wider` meets its contract: the records done lie in the buffer, each made longer, and the rest is to come. Assumes nothing.
use Rattle.std.proofs.Common.{ℕ, ◌+◌, ◌-◌, ◌≡◌, ◌∙◌, ap, arith}
use lib.ListN.{replicate}
use Rattle.numbers.specs.Series.{overlaid}
use Rattle.editions.specs.Converted.{new_word}
use Rattle.editions.proofs.Filling.{widening_start, widening_numbers, widening_room, widening_filled, widening_next, widening_end, filled_with}
use Rattle.editions.proofs.fill_wider.Goals as goal

pub loop-init : goal.loop-init
loop-init c =
    let all : c.args.records - 0 ≡ c.args.records = omega arith in
    rw all (widening_start _ _ _ _ _ _ _ _ c.requires.all_numbers c.requires.width_le_wide)

pub fill_on-at-requires-clause-all_numbers : goal.fill_on-at-requires-clause-all_numbers
fill_on-at-requires-clause-all_numbers c = widening_numbers c.loop.invariant (omega arith)

pub loop-preserved : goal.loop-preserved
loop-preserved c =
    let f = c.loop.invariant in
    let left : c.args.records - c.loop.counter - 1 ≡ c.args.records - (c.loop.counter + 1) = omega arith in
    let long = widening_filled f (omega arith) c.fill_on-at.ensures in
    let new : c.loop.next + c.args.wide - (c.loop.next + c.args.width) ≡ c.args.wide - c.args.width = omega (arith, f.grows) in
    let room = widening_room f (omega arith) in
    let put = filled_with c.fill_on-at.new.out (c.loop.next + c.args.width) (c.loop.next + c.args.wide) new_word (omega (arith, f.grows)) (c.fill.ensures.after (λ y e. e)) (omega (arith, long, room)) in
    rw (← left) (widening_next f (omega arith) c.fill_on-at.ensures (put ∙ ap (λ (n : ℕ). overlaid c.fill_on-at.new.out (c.loop.next + c.args.width) (replicate n new_word)) new))

pub returns : goal.returns
returns c = widening_end c.loop.invariant (omega arith)
