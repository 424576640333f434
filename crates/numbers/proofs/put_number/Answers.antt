-- `numbers::put_number` meets its contract: after each group the buffer holds the groups written so far. Assumes nothing.
use Rattle.std.proofs.Common.{ℕ, ◌+◌, ◌%◌, ◌<◌, ◌≡◌, ◌∙◌, sym, ap, [], ◌∷◌, ◌++◌, length, set, length-append, arith}
use Rattle.numbers.specs.Number.{group_values}
use Rattle.numbers.specs.Series.{overlaid}
use Rattle.numbers.proofs.Rest.{rest_none, rest_more, rest_last, rest_within}
use Rattle.numbers.proofs.Overlay.{overlaid_none, overlaid_more, overlaid_length}
use Rattle.numbers.proofs.put_number.Goals.{At-loop-rest}
use Rattle.numbers.proofs.put_number.Goals as goal

-- At the loop's head the place is inside the buffer, and one byte more lies over it.
module _ (c : At-loop-rest) where
  room : c.args.at + length c.loop-rest.invariant.0 < length c.args.out.now
  room = omega (arith, rest_within _ c.loop-rest.invariant.0 _ c.loop-rest.invariant.1, c.requires)

  as_long : length c.loop-rest.out ≡ length c.args.out.now
  as_long = ap length c.loop-rest.invariant.3 ∙ overlaid_length c.args.out.now c.args.at c.loop-rest.invariant.0 (omega (arith, room))

  inside : c.loop-rest.next < length c.loop-rest.out
  inside = omega (arith, room, c.loop-rest.invariant.2, as_long)

  one_more : (b : ℕ) → set c.loop-rest.out c.loop-rest.next b ≡ overlaid c.args.out.now c.args.at (c.loop-rest.invariant.0 ++ (b ∷ []))
  one_more b = rw (c.loop-rest.invariant.3, c.loop-rest.invariant.2) (overlaid_more _ _ c.loop-rest.invariant.0 b room)

pub loop-rest-init : goal.loop-rest-init
loop-rest-init c = ([], rest_none _ (omega arith), omega arith, sym (overlaid_none c.args.out.now c.args.at))

pub bounds-out-next : goal.bounds-out-next
bounds-out-next c = inside (goal.at.bounds-out-next c).At-loop-rest

pub loop-rest-preserved : goal.loop-rest-preserved
loop-rest-preserved c =
    let i = c.loop-rest.invariant in
    let b = group_values + c.loop-rest.rest % group_values in
    let l = length-append i.0 (b ∷ []) in
    (i.0 ++ (b ∷ []), rest_more _ i.0 _ c.loop-rest-test.true i.1, omega arith, one_more (goal.at.loop-rest-preserved c).At-loop-rest b)

pub bounds-out-next-2 : goal.bounds-out-next-2
bounds-out-next-2 c = inside (goal.at.bounds-out-next-2 c).At-loop-rest

pub returns : goal.returns
returns c =
    let i = c.loop-rest.invariant in
    let w = rest_last _ i.0 _ c.loop-rest-test.false i.1 in
    (omega (arith, i.2, ap length w, length-append i.0 (c.loop-rest.rest ∷ [])), one_more (goal.at.returns c).At-loop-rest _ ∙ rw w)
