-- `numbers::number_size` meets its contract: a group is counted for each that is taken off, and one for the last. Assumes nothing.
use Rattle.std.proofs.Common.{◌+◌, ◌%◌, refl, ap, [], ◌∷◌, ◌++◌, length, length-append, arith}
use Rattle.numbers.specs.Number.{group_values}
use Rattle.numbers.proofs.Rest.{rest_none, rest_more, rest_last, rest_within}
use Rattle.numbers.proofs.OneNumber.{number_bytes_at_most}
use Rattle.numbers.proofs.number_size.Goals as goal

pub loop-rest-init : goal.loop-rest-init
loop-rest-init c = ([], refl, rest_none _ (omega arith))

pub overflow_add-size : goal.overflow_add-size
overflow_add-size c =
    let i = c.loop-rest.invariant in
    omega (arith, rest_within _ i.0 _ i.2, number_bytes_at_most c.args.x)

pub loop-rest-preserved : goal.loop-rest-preserved
loop-rest-preserved c =
    let i = c.loop-rest.invariant in
    let l = length-append i.0 ((group_values + c.loop-rest.rest % group_values) ∷ []) in
    (i.0 ++ ((group_values + c.loop-rest.rest % group_values) ∷ []), omega arith, rest_more _ i.0 _ c.loop-rest-test.true i.2)

pub returns : goal.returns
returns c =
    let i = c.loop-rest.invariant in
    let w = ap length (rest_last _ i.0 _ c.loop-rest-test.false i.2) in
    omega (arith, length-append i.0 (c.loop-rest.rest ∷ []))
